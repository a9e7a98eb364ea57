-- A trail of constraints back, with marks at the nodes that it has passed.
use Rattle.std.proofs.Common.{◌≡◌, ℕ, ◌+◌, ◌-◌, ◌<◌, ◌≤◌, List, [], ◌∷◌, ◌++◌, length, slice_index, set, take, drop, reverse, subst, inl, inr, pos, ◌<ℤ◌, refl, sym, ap, ◌∙◌, arith, cond}
use Rattle.std.specs.Prelude.{count_by, ◌==◌}
use Rattle.std.proofs.lemmas.Int.{ints}
use Rattle.std.proofs.lemmas.List.{length-append, length-reverse, length-drop, reverse-append, take-append-drop, take_at, take_all, drop-append-le, drop_at, drop-drop}
use Rattle.std.proofs.lemmas.List.Sums.{sum_by-set}
use Rattle.std.proofs.lemmas.Bool.Decides.{nat_tests}
use Rattle.diff_solve.specs.declared.solve.Constraint.{Constraint}
use Rattle.diff_solve.specs.Cycles.{from_of, to_of, weight_of_all, Leads, IsPositiveCycle}
use Rattle.diff_solve.specs.Passes.{Back, AllEntered, HasPositiveLoops, ComesHome}
use Rattle.diff_solve.proofs.Walks.{Back-append, AllEntered-drop, Leads-reverse, Leads-from_zero, weight-reverse}
use Rattle.diff_solve.proofs.Writes.{set-cases}

-- from each marked node the rest of the trail leads back to where the trail has come
abbrev pub IsMarked : List Constraint → List ℕ → List ℕ → ℕ → Type 0
IsMarked cs seen trail node =
    (x : ℕ) → 0 < slice_index seen x → (slice_index seen x ≤ length trail) × Back cs x (drop (slice_index seen x - 1) trail) node

pub IsMarked-push : (cs : List Constraint) (seen trail : List ℕ) (node p : ℕ) → IsMarked cs seen trail node → node < length seen → p < length cs → to_of cs p ≡ node →
    IsMarked cs (set seen node (length trail + 1)) (trail ++ p ∷ []) (from_of cs p)
IsMarked-push cs seen trail node p marked in_seen p_in ends x some =
    let long = length-append trail (p ∷ []) in
    elim (set-cases seen node (length trail + 1) in_seen x) [
      | inl new ↦
          let k = new.1 in
          let at : slice_index (set seen node (length trail + 1)) x - 1 ≡ length trail = omega arith in
          let rest : drop (slice_index (set seen node (length trail + 1)) x - 1) (trail ++ p ∷ []) ≡ p ∷ [] = rw at (drop_at trail (p ∷ []) (length trail) refl) in
          (omega arith, rw rest (p_in, ends ∙ sym new.0, refl))
      | inr old ↦
          let k = old.1 in
          let m = marked x (omega arith) in
          let at : slice_index (set seen node (length trail + 1)) x - 1 ≡ slice_index seen x - 1 = omega arith in
          let rest : drop (slice_index (set seen node (length trail + 1)) x - 1) (trail ++ p ∷ []) ≡ drop (slice_index seen x - 1) trail ++ p ∷ [] =
          rw at (drop-append-le (slice_index seen x - 1) trail (p ∷ []) (omega (arith, m.0))) in
          (omega (arith, m.0), rw rest (Back-append cs x (drop (slice_index seen x - 1) trail) node (p ∷ []) (from_of cs p) m.1 (p_in, ends, refl)))
    ]

-- one node less is unmarked
pub count-marked : (seen : List ℕ) (node y : ℕ) → node < length seen → slice_index seen node ≡ 0 →
    count_by (λ x. x == 0) (set seen node (y + 1)) + 1 ≡ count_by (λ x. x == 0) seen
count-marked seen node y l e =
    let f : ℕ → ℕ = λ x. cond (x == 0) 1 0 in
    let step = sum_by-set f seen node (y + 1) 0 l in
    let was : f (slice_index seen node) ≡ 1 = ap f e in
    let is : f (y + 1) ≡ 0 = grind (arith, nat_tests) in
    omega (arith, step, was, is)

take-reverse : (xs : List ℕ) (k : ℕ) → k ≤ length xs → take (length xs - k) (reverse xs) ≡ reverse (drop k xs)
take-reverse xs k l =
    let parts : reverse xs ≡ reverse (drop k xs) ++ reverse (take k xs) = ap reverse (sym (take-append-drop k xs)) ∙ reverse-append (take k xs) (drop k xs) in
    rw parts (take_at (reverse (drop k xs)) (reverse (take k xs)) (length xs - k) (length-reverse (drop k xs) ∙ length-drop k xs))

some-from_weight : (cs : List Constraint) (ps : List ℕ) → pos 0 <ℤ weight_of_all cs ps → 0 < length ps
some-from_weight cs [] h = absurd (omega (arith, ints))
some-from_weight cs (p ∷ ps) h = omega arith

-- where the trail comes to a marked node
pub cycle_from_mark : (cs : List Constraint) (entered seen trail : List ℕ) (node : ℕ) → HasPositiveLoops cs entered → IsMarked cs seen trail node → AllEntered cs entered trail → 0 < slice_index seen node →
    IsPositiveCycle cs (take (length trail - (slice_index seen node - 1)) (reverse trail))
cycle_from_mark cs entered seen trail node loops marked all some =
    let m = marked node some in
    let k = slice_index seen node - 1 in
    let rest = drop k trail in
    let positive = loops node rest m.1 (AllEntered-drop cs entered k trail all) (omega (arith, length-drop k trail, m.0)) in
    rw (take-reverse trail k (omega (arith, m.0))) (node, Leads-reverse cs node rest node m.1, omega (arith, ints, positive, weight-reverse cs rest))

-- where it comes to a node that was never raised
pub cycle_from_home : (cs : List Constraint) (entered trail : List ℕ) (n start node : ℕ) → ComesHome n cs entered start → Back cs start trail node → AllEntered cs entered trail → slice_index entered node ≡ 0 → length trail ≤ n →
    IsPositiveCycle cs (take (length trail - 0) (reverse trail))
cycle_from_home cs entered trail n start node home back all unraised short =
    let h = home trail node back all unraised short in
    let same : take (length trail - 0) (reverse trail) ≡ reverse trail = take_all (length trail - 0) (reverse trail) (omega (arith, length-reverse trail)) in
    let some : 0 < length (reverse trail) = omega (arith, length-reverse trail, some-from_weight cs trail h.1) in
    let leads : Leads cs 0 (reverse trail) 0 = rw h.0 at (Leads-from_zero cs node (reverse trail) start some (Leads-reverse cs start trail node back)) in
    rw same (0, leads, omega (arith, ints, h.1, weight-reverse cs trail))

-- a way back that ends at a node which was never raised goes on where the node was raised
step_home : (cs : List Constraint) (entered : List ℕ) (node p : ℕ) (qs : List ℕ) (r : ℕ) → Back cs node qs r → AllEntered cs entered qs → slice_index entered r ≡ 0 → slice_index entered node ≡ p + 1 →
    (0 < length qs) × Back cs (from_of cs p) (drop 1 qs) r × AllEntered cs entered (drop 1 qs)
step_home cs entered node p [] r back all home here =
    let same : slice_index entered node ≡ slice_index entered r = ap (slice_index entered) back in absurd (omega arith)
step_home cs entered node p (q ∷ qs) r (lt, ends, rest) (there, more) home here =
    let at : slice_index entered (to_of cs q) ≡ slice_index entered node = ap (slice_index entered) ends in
    let same : q ≡ p = omega arith in
    (omega arith, subst (λ k. Back cs (from_of cs k) qs r) same rest, more)

-- after that many steps back from the start one is at the node, on each way home
abbrev pub GoesOn : List Constraint → List ℕ → ℕ → ℕ → ℕ → Type 0
GoesOn cs entered start steps node =
    (ps : List ℕ) (r : ℕ) → Back cs start ps r → AllEntered cs entered ps → slice_index entered r ≡ 0 →
    (steps ≤ length ps) × Back cs node (drop steps ps) r × AllEntered cs entered (drop steps ps)

pub GoesOn-none : (cs : List Constraint) (entered : List ℕ) (start : ℕ) → GoesOn cs entered start 0 start
GoesOn-none cs entered start ps r back all home = (omega arith, back, all)

pub GoesOn-more : (cs : List Constraint) (entered : List ℕ) (start steps node p : ℕ) → GoesOn cs entered start steps node → slice_index entered node ≡ p + 1 → GoesOn cs entered start (steps + 1) (from_of cs p)
GoesOn-more cs entered start steps node p before here ps r back all home =
    let b = before ps r back all home in
    let s = step_home cs entered node p (drop steps ps) r b.1 b.2 home here in
    let rest : drop (steps + 1) ps ≡ drop 1 (drop steps ps) = sym (drop-drop 1 steps ps) in
    (omega (arith, s.0, b.0, length-drop steps ps), rw rest s.1, rw rest s.2)

pub ComesHome-from_loop : (cs : List Constraint) (entered : List ℕ) (n start node : ℕ) → GoesOn cs entered start (n + 1) node → ComesHome n cs entered start
ComesHome-from_loop cs entered n start node goes ps r back all home short = absurd (omega (arith, (goes ps r back all home).0))
