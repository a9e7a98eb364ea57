-- The distances that one more dimension leaves.
use Rattle.std.proofs.Common.{◌≡◌, ℕ, suc, ◌+◌, ◌<◌, ◌≤◌, ◌∙◌, sym, refl, ap, ap₂, List, [], ◌∷◌, map, drop, length, get_or, min, inl, inr, arith}
use Rattle.std.proofs.Common.{drop-cons}
use Rattle.std.proofs.lemmas.Bool.{cases_lt}
use Rattle.std.proofs.lemmas.List.{drop-map, drop_all, length-map}
use Rattle.ir_core.specs.declared.body.Operand.{Operand}
use Rattle.dep_graph.specs.declared.access.Meeting.{Meeting}
use Rattle.dep_graph.specs.declared.access.Subscript.{Subscript}
use Rattle.dep_graph.specs.Meetings.{subscripts_meet, both, distances_from}

front : (f : Operand → Subscript) (xs : List Operand) (i : ℕ) (x : Operand) → i < length xs → drop i (map f xs) ≡ f (get_or xs i x) ∷ drop (i + 1) (map f xs)
front f xs i x lt =
    let more : suc i ≡ i + 1 = omega arith in
    drop-map f i xs ∙ ap (map f) (drop-cons xs i x lt) ∙ ap (λ ys. f (get_or xs i x) ∷ ys) (sym (drop-map f (suc i) xs) ∙ ap (λ k. drop k (map f xs)) more)

pub one_more : (f g : Operand → Subscript) (d : Meeting) (xs ys : List Operand) (i : ℕ) (x y : Operand) → i < length xs → i < length ys
    → distances_from d (drop i (map f xs)) (drop i (map g ys)) ≡ distances_from (both d (subscripts_meet (f (get_or xs i x)) (g (get_or ys i y)))) (drop (i + 1) (map f xs)) (drop (i + 1) (map g ys))
one_more f g d xs ys i x y l r = ap₂ (λ as_ bs. distances_from d as_ bs) (front f xs i x l) (front g ys i y r)

none_right : (d : Meeting) (xs : List Subscript) → distances_from d xs [] ≡ d
none_right d [] = refl
none_right d (x ∷ xs) = refl

pub no_more : (f g : Operand → Subscript) (d : Meeting) (xs ys : List Operand) (i : ℕ) → min (length xs) (length ys) ≤ i → distances_from d (drop i (map f xs)) (drop i (map g ys)) ≡ d
no_more f g d xs ys i h =
    let left = length-map xs f in
    let right = length-map ys g in
    elim (cases_lt i (length xs)) [
      | inl lt ↦ ap (λ zs. distances_from d (drop i (map f xs)) zs) (drop_all i (map g ys) (omega arith)) ∙ none_right d (drop i (map f xs))
      | inr le ↦ ap (λ zs. distances_from d zs (drop i (map g ys))) (drop_all i (map f xs) (omega arith))
    ]
