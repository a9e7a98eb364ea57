-- Lists of pieces within a piece.
use Rattle.std.proofs.Common.{◌≡◌, List, [], ◌++◌, length, sym, ap, subst, ◌∙◌, arith, ℕ}
use Rattle.std.proofs.lemmas.Grind.{common_steps}
use Rattle.hls_base.specs.declared.refusal.Refusal.{Refusal}
use Rattle.pieces.specs.Trees.{PieceTree}
use Rattle.pieces.specs.declared.piece.Label.{Label}
use Rattle.piece_making.specs.Making.{State, Part, Inner, gives, inside, inside_switch}
use Rattle.piece_making.specs.Stocks.{Stock, state_of, IsMade, IsTooHeavy, with_out, with_labels}
use Rattle.piece_making.proofs.Parts.{nothing_made}

appended_nothing : {A : Type 0} (xs : List A) → xs ≡ xs ++ []
appended_nothing xs = grind (arith, common_steps)

abbrev inner : {A : Type 0} → A → List PieceTree → Inner A
inner v pieces = record { value = v; pieces = pieces }

abbrev with_made : ℕ → State → State
with_made n s = record s { made = n }

closed : {A : Type 0} (old mid : Stock) (v : A) (outs : List PieceTree) (p : Part A)
    → IsMade (with_out [] old) mid v p → outs ≡ old.out
    → (inner v mid.out ≡ inner p.value p.pieces) × (with_made (length outs) (state_of mid) ≡ with_made (length old.out) p.state)
closed old mid v outs p h e = (ap (λ x. inner x mid.out) h.value ∙ ap (λ xs. inner p.value xs) h.out, ap (λ s. with_made (length outs) s) h.state ∙ ap (λ xs. with_made (length xs) p.state) e)

pub enclosed : {A : Type 0} (old start mid new : Stock) (v : A) (pieces outs : List PieceTree) (part : State → Part A)
    → start ≡ with_out [] old → IsMade start mid v (part (state_of start)) → outs ≡ old.out → pieces ≡ mid.out → new ≡ with_out outs mid
    → IsMade old new (record { value = v; pieces = pieces }) (inside part (state_of old))
unfolding inside
enclosed {A} old start mid new v pieces outs part e h f g k =
    let h1 : IsMade (with_out [] old) mid v (part (state_of (with_out [] old))) = subst (λ s. IsMade s mid v (part (state_of s))) e h in
    let c = closed old mid v outs (part (state_of (with_out [] old))) h1 f in
    record {
      value = ap (λ xs. inner v xs) g ∙ c.0;
      out = ap (λ (s : Stock). s.out) k ∙ f ∙ appended_nothing old.out;
      labels = ap (λ (s : Stock). s.labels) k ∙ h1.labels;
      rest = let r = ap (λ (s : Stock). s.rest) k in omega (arith, h1.rest, r);
      state = ap state_of k ∙ c.1;
      at = ap (λ (s : Stock). s.at) k ∙ h1.at;
    }

pub enclosed_heavy : {A : Type 0} (old start : Stock) (r : Refusal) (part : State → Part A)
    → start ≡ with_out [] old → IsTooHeavy start r (part (state_of start)) → IsTooHeavy old r (inside part (state_of old))
unfolding inside
enclosed_heavy {A} old start r part e h =
    let h1 : IsTooHeavy (with_out [] old) r (part (state_of (with_out [] old))) = subst (λ s. IsTooHeavy s r (part (state_of s))) e h in
    record { heavy = h1.heavy; rule = h1.rule; at = h1.at }

-- no pieces
pub nothing_enclosed : (s : Stock) (u : Unit {0}) (pieces : List PieceTree) → pieces ≡ [] → IsMade s s (record { value = u; pieces = pieces }) (inside (λ s0. gives tt s0) (state_of s))
unfolding inside
nothing_enclosed s u pieces e = subst (λ (xs : List PieceTree). IsMade s s (inner u xs) (gives (inner u []) (state_of s))) (sym e) (nothing_made s (inner u []))

-- a switch's body, whose labels become its own
pub enclosed_switch : (old begun start mid left new : Stock) (v : Unit {0}) (pieces outs : List PieceTree) (labels before : List Label) (part : State → Part (Unit {0}))
    → begun ≡ with_out [] old → start ≡ with_labels [] begun → IsMade start mid v (part (state_of start))
    → outs ≡ old.out → before ≡ begun.labels → labels ≡ mid.labels → left ≡ with_labels before mid → pieces ≡ left.out → new ≡ with_out outs left
    → IsMade old new (pieces, labels) (inside_switch part (state_of old))
unfolding inside_switch inside
enclosed_switch old begun start mid left new v pieces outs labels before part a b h c d e f g k =
    let first : start ≡ with_labels [] (with_out [] old) = b ∙ ap (with_labels []) a in
    let h1 : IsMade (with_labels [] (with_out [] old)) mid v (part (state_of (with_labels [] (with_out [] old)))) = subst (λ s. IsMade s mid v (part (state_of s))) first h in
    let p = part (state_of (with_labels [] (with_out [] old))) in
    let last : new ≡ with_out outs (with_labels before mid) = k ∙ ap (with_out outs) f in
    record {
      value = ap (λ (xs : List PieceTree). (xs, labels)) (g ∙ ap (λ (s : Stock). s.out) f ∙ h1.out) ∙ ap (λ (ls : List Label). (p.pieces, ls)) (e ∙ h1.labels);
      out = ap (λ (s : Stock). s.out) last ∙ c ∙ appended_nothing old.out;
      labels = ap (λ (s : Stock). s.labels) last ∙ d ∙ ap (λ (s : Stock). s.labels) a ∙ appended_nothing old.labels;
      rest = let r = ap (λ (s : Stock). s.rest) last in omega (arith, h1.rest, r);
      state = ap state_of last ∙ ap (λ s. with_made (length outs) s) h1.state ∙ ap (λ xs. with_made (length xs) p.state) c;
      at = ap (λ (s : Stock). s.at) last ∙ h1.at;
    }

pub enclosed_switch_heavy : (old begun start : Stock) (r : Refusal) (part : State → Part (Unit {0}))
    → begun ≡ with_out [] old → start ≡ with_labels [] begun → IsTooHeavy start r (part (state_of start)) → IsTooHeavy old r (inside_switch part (state_of old))
unfolding inside_switch inside
enclosed_switch_heavy old begun start r part a b h =
    let first : start ≡ with_labels [] (with_out [] old) = b ∙ ap (with_labels []) a in
    let h1 : IsTooHeavy (with_labels [] (with_out [] old)) r (part (state_of (with_labels [] (with_out [] old)))) = subst (λ s. IsTooHeavy s r (part (state_of s))) first h in
    record { heavy = h1.heavy; rule = h1.rule; at = h1.at }
