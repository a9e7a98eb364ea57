-- Rows in order are in order too as the values that they list.
use Rattle.std.proofs.Common.{◌≡◌, ℕ, zero, suc, ◌+◌, ◌<◌, Bool, List, [], ◌∷◌, map, length, refl, arith}
use Rattle.std.specs.Prelude.{slice_index_or}
use Rattle.std.proofs.lemmas.List.{length-map}
use Rattle.std.specs.List.Sorted.{IsSortedBy}

at_map : {X Y : Type 0} (f : X → Y) (xs : List X) (k : ℕ) (d : Y) (e : X) → k < length xs → slice_index_or (map f xs) k d ≡ f (slice_index_or xs k e)
at_map f [] k d e l = absurd (omega arith)
at_map f (x ∷ xs) zero d e l = refl
at_map f (x ∷ xs) (suc k) d e l = at_map f xs k d e (omega arith)

first_or : {X : Type 0} (xs : List X) → 0 < length xs → X
first_or [] l = absurd (omega arith)
first_or (x ∷ xs) l = x

pub sorted_map : {X Y : Type 0} (f : X → Y) (lt : Y → Y → Bool) (xs : List X) → IsSortedBy (λ x y. lt (f x) (f y)) xs → IsSortedBy lt (map f xs)
sorted_map f lt xs up k d low high =
    let within : k + 1 < length xs = omega (arith, high, length-map xs f) in
    let e = first_or xs (omega arith) in
    let here = at_map f xs k d e (omega arith) in
    let next = at_map f xs (k + 1) d e within in
    rw (here, next) (up k e low within)
