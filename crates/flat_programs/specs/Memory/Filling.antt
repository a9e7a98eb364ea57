-- Elements that are put at their places.
use Rattle.std.specs.Prelude.{ℕ, List, ◌∷◌, slice_set}

abbrev pub filled : List ℕ → List ℕ → List ℕ → List ℕ
filled (place ∷ places) (x ∷ xs) words = filled places xs (slice_set words place x)
filled _ _ words = words
