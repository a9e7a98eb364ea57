-- Elements that fit the arrays of an interface.
use Rattle.std.specs.Prelude.{◌≡◌, ◌^◌, ◌<◌, ℕ, List, [], ◌∷◌, length}
use Rattle.std.specs.List.{All}
use Rattle.hls_base.specs.ArrayAddress.{addresses}
use Rattle.rtl_core.specs.Interface.{ArrayShape}

-- an element for each address of the array, each within its width
pub record IsArray (a : ArrayShape) (xs : List ℕ) : Type 0 where
  pub count : length xs ≡ length (addresses a.dims)
  pub fit : All (λ x. x < 2 ^ a.bits) xs

abbrev pub FitArrays : List ArrayShape → List (List ℕ) → Type 0
FitArrays [] [] = Unit {0}
FitArrays [] (xs ∷ arrays) = ⊥
FitArrays (a ∷ shapes) [] = ⊥
FitArrays (a ∷ shapes) (xs ∷ arrays) = IsArray a xs × FitArrays shapes arrays
