-- Lists that have come to their ends.
use Rattle.std.proofs.Common.{◌≡◌, ℕ, zero, suc, ◌≤◌, List, [], ◌∷◌, None, length, drop, min, refl, ap, ◌∙◌, inl, inr, arith}
use Rattle.std.proofs.lemmas.Bool.{cases_lt}
use Rattle.std.proofs.lemmas.List.{drop_all}
use Rattle.dep_graph.specs.Offsets.{nth}
use Rattle.dep_graph.specs.Meetings.{distances_from}
use Rattle.dep_graph.specs.declared.access.Meeting.{Meeting}
use Rattle.dep_graph.specs.declared.access.Subscript.{Subscript}

pub nth_past : {A : Type 0} (xs : List A) (k : ℕ) → length xs ≤ k → nth xs k ≡ None
nth_past [] k h = refl
nth_past (x ∷ xs) zero h = absurd (omega (arith, h))
nth_past (x ∷ xs) (suc k) h = nth_past xs k (omega (arith, h))

pub no_more_right : (d : Meeting) (xs : List Subscript) → distances_from d xs [] ≡ d
no_more_right d [] = refl
no_more_right d (x ∷ xs) = refl

pub no_more : (d : Meeting) (xs ys : List Subscript) (i : ℕ) → min (length xs) (length ys) ≤ i → distances_from d (drop i xs) (drop i ys) ≡ d
no_more d xs ys i h = elim (cases_lt i (length xs)) [
  | inl left ↦ ap (λ zs. distances_from d (drop i xs) zs) (drop_all i ys (omega (arith, h, left))) ∙ no_more_right d (drop i xs)
  | inr right ↦ ap (λ zs. distances_from d zs (drop i ys)) (drop_all i xs right)
]
