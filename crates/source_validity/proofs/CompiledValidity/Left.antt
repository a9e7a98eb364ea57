-- Control goes on behind loops at their Ends.
use Rattle.std.proofs.Common.{◌≡◌, ◌∙◌, ℕ, zero, suc, Bool, true, false, ◌||◌, not, refl, ap, sym, subst, arith, List, [], ◌∷◌, map, length, inl, inr, Some}
use Rattle.std.specs.Prelude.{◌≢◌, ◌==◌, ◌⊎◌, slice_get}
use Rattle.std.specs.List.{filter, list_all, list_any, count_by}
use Rattle.std.proofs.lemmas.List.Sums.{length-filter}
use Rattle.std.proofs.lemmas.Option.{none-some, same_Some}
use Rattle.std.proofs.lemmas.Bool.{and_from, eqb-true, true≢false, cases_Bool, cond-true, cond-false}
use Rattle.hls_base.specs.declared.number.NodeId.{NodeId}
use Rattle.hls_base.specs.declared.place.Place.{Place}
use Rattle.hls_base.specs.declared.point.Point.{Point}
use Rattle.hls_base.specs.Tallies.{same_place, same_path}
use Rattle.ir_core.specs.declared.body.Operand.{Operand}
use Rattle.ir_core.specs.declared.cfg.Cfg.{Cfg}
use Rattle.ir_core.specs.declared.cfg.End.{End}
use Rattle.ir_core.specs.declared.cfg.End.TheVariants as end
use Rattle.ir_core.specs.declared.cfg.Loop.{Loop}
use Rattle.ir_core.specs.declared.cfg.Node.{Node}
use Rattle.ir_core.specs.declared.cfg.Node.TheVariants as node
use Rattle.ir_core.specs.declared.stamp.Untimed.{Untimed}
use Rattle.report_rows.specs.Costs.{end_of}
use Rattle.timed_pieces.specs.FormulaCycles.Ends.{targets, followers, Among, LoopsLeadToTheirEnds}
use Rattle.program_validity.specs.Targets.{end_leads_to, leads_to, is_end_of, is_block_at_end_of, is_left, is_left_if}

-- ---- points

same_number : (n : ℕ) → (n == n) ≡ true
same_number n = grind arith

place_itself : (p : Place) → same_place p p ≡ true
place_itself p = and_from _ _ (same_number p.line) (and_from _ _ (same_number p.column) (same_number p.part))

path_itself : (ps : List Place) → same_path ps ps ≡ true
path_itself [] = refl
path_itself (p ∷ ps) = and_from _ _ (place_itself p) (path_itself ps)

end_itself : (p : Point) → is_end_of (end_of p) p ≡ true
end_itself p = and_from _ _ (place_itself p.at) (path_itself p.path)

-- ---- what leads to a node is among the followers

either_of : (x y : Bool) → (x || y) ≡ true → (x ≡ true) ⊎ (y ≡ true)
either_of true y h = inl refl
either_of false y h = inr h

cases_among : (n : NodeId) (cases : List (Operand × NodeId)) → list_any (λ (c : Operand × NodeId). c.1.0 == n.0) cases ≡ true → Among n.0 (map (λ (c : Operand × NodeId). c.1.0) cases)
cases_among n [] h = absurd (true≢false (sym h))
cases_among n (c ∷ cs) h = elim (either_of (c.1.0 == n.0) _ h) [
  | inl e ↦ inl (eqb-true c.1.0 n.0 e)
  | inr k ↦ inr (cases_among n cs k)
]

end_among : (n : NodeId) (e : End) → end_leads_to n e ≡ true → Among n.0 (targets e)
end_among n (end.Jump next) h = inl (eqb-true next.0 n.0 h)
end_among n (end.Branch test left right) h = elim (either_of (left.0 == n.0) _ h) [
  | inl e ↦ inl (eqb-true left.0 n.0 e)
  | inr e ↦ inr (inl (eqb-true right.0 n.0 e))
]
end_among n (end.Choose cases other) h = elim (either_of (other.0 == n.0) _ h) [
  | inl e ↦ inl (eqb-true other.0 n.0 e)
  | inr k ↦ inr (cases_among n cases.items k)
]
end_among n (end.Return value) h = absurd (true≢false (sym h))

node_among : (n : NodeId) (x : Node Untimed) → leads_to n x ≡ true → Among n.0 (followers x)
node_among n (node.Plain block) h = end_among n block.end h
node_among n (node.Looped region) h = inl (eqb-true region.next.0 n.0 h)

-- ---- counting

none_left : {A : Type 0} (p : A → Bool) (xs : List A) → ((i : ℕ) (x : A) → slice_get xs i ≡ Some x → p x ≡ true → ⊥) → filter p xs ≡ []
none_left p [] h = refl
none_left p (x ∷ xs) h = elim (cases_Bool (p x)) [
  | inl yes_ ↦ absurd (h 0 x refl yes_)
  | inr no_ ↦ cond-false (p x) (x ∷ filter p xs) (filter p xs) no_ ∙ none_left p xs (λ i y at is_. h (suc i) y at is_)
]

one_left : {A : Type 0} (p : A → Bool) (xs : List A) (l : ℕ) (y : A) → slice_get xs l ≡ Some y → p y ≡ true → ((i : ℕ) (x : A) → slice_get xs i ≡ Some x → p x ≡ true → i ≡ l) → length (filter p xs) ≡ 1
one_left p [] l y at is_ alone = absurd (none-some y at)
one_left p (x ∷ xs) zero y at is_ alone =
    let here : p x ≡ true = subst (λ z. p z ≡ true) (sym (same_Some x y at)) is_ in
    ap length (cond-true (p x) (x ∷ filter p xs) (filter p xs) here) ∙ ap (λ zs. suc (length zs)) (none_left p xs (λ i z there holds. (let e = alone (suc i) z there holds in omega (arith, e))))
one_left p (x ∷ xs) (suc l) y at is_ alone = elim (cases_Bool (p x)) [
  | inl yes_ ↦ absurd (let e = alone 0 x refl yes_ in omega (arith, e))
  | inr no_ ↦ ap length (cond-false (p x) (x ∷ filter p xs) (filter p xs) no_) ∙ one_left p xs l y at is_ (λ i z there holds. (let e = alone (suc i) z there holds in omega (arith, e)))
]

-- what holds of this one alone holds of one
one_counted : {A : Type 0} (p : A → Bool) (xs : List A) (l : ℕ) (y : A) → slice_get xs l ≡ Some y → p y ≡ true → ((i : ℕ) (x : A) → slice_get xs i ≡ Some x → p x ≡ true → i ≡ l) → count_by p xs ≡ 1
one_counted p xs l y at is_ alone = sym (length-filter p xs) ∙ one_left p xs l y at is_ alone

-- ---- loops

not_same : (a b : ℕ) → (a ≢ b) → (a == b) ≡ false
not_same a b h = grind arith

loop_left : (cfg : Cfg Untimed) → LoopsLeadToTheirEnds cfg → (l : ℕ) (region : Loop Untimed) → slice_get cfg.nodes.items l ≡ Some (node.Looped region) → is_left cfg region ≡ true
loop_left cfg ends l region at =
    let b = ends.behind l region at in
    and_from _ _ (ap (is_block_at_end_of region.point) b.1.0 ∙ ap (λ q. is_end_of q region.point) b.1.1 ∙ end_itself region.point)
    (and_from _ _ (ap not (not_same cfg.first.0 region.next.0 (ends.first l region at)))
    (ap (λ n. n == 1) (one_counted (leads_to region.next) cfg.nodes.items l (node.Looped region) at (same_number region.next.0) (λ i x there h. ends.alone l region at i x there (node_among region.next x h)))))

node_left : (cfg : Cfg Untimed) → LoopsLeadToTheirEnds cfg → (l : ℕ) (x : Node Untimed) → slice_get cfg.nodes.items l ≡ Some x → is_left_if cfg x ≡ true
node_left cfg ends l (node.Plain block) at = refl
node_left cfg ends l (node.Looped region) at = loop_left cfg ends l region at

all_hold : {A : Type 0} (p : A → Bool) (xs : List A) → ((i : ℕ) (x : A) → slice_get xs i ≡ Some x → p x ≡ true) → list_all p xs ≡ true
all_hold p [] h = refl
all_hold p (x ∷ xs) h = and_from _ _ (h 0 x refl) (all_hold p xs (λ i y at. h (suc i) y at))

pub loops_left : (cfg : Cfg Untimed) → LoopsLeadToTheirEnds cfg → list_all (is_left_if cfg) cfg.nodes.items ≡ true
loops_left cfg ends = all_hold (is_left_if cfg) cfg.nodes.items (λ l x at. node_left cfg ends l x at)
