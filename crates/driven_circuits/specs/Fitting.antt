-- What the pins of an interface can carry.
use Rattle.std.specs.Prelude.{◌≡◌, ℕ, ◌^◌, ◌<◌, ◌≤◌, List, [], ◌∷◌, length}
use Rattle.hls_base.specs.ArrayAddress.{element_count}
use Rattle.rtl_core.specs.Interface.{ArrayShape, Interface}
use Rattle.ir_core.specs.AddressWords.{AreShort}

-- each dimension of each array has at most 65,536 places
abbrev pub ArraysAreShort : List ArrayShape → Type 0
ArraysAreShort [] = Unit {0}
ArraysAreShort (a ∷ arrays) = AreShort a.dims × ArraysAreShort arrays

-- The pins that name an array and an element are wide enough for all of them.
pub record IsReached (i : Interface) : Type 0 where
  pub few : length i.arrays ≤ 32
  pub short : ArraysAreShort i.arrays

-- each word is below 2 to the power of the bits
abbrev pub WordsFit : ℕ → List ℕ → Type 0
WordsFit bits [] = Unit {0}
WordsFit bits (w ∷ words) = (w < 2 ^ bits) × WordsFit bits words

-- as many words as the array has elements, each within its bits
pub record IsArray (a : ArrayShape) (words : List ℕ) : Type 0 where
  pub count : length words ≡ element_count a.dims
  pub fit : WordsFit a.bits words

-- one list of words for each array
abbrev pub AreArrays : List ArrayShape → List (List ℕ) → Type 0
AreArrays [] [] = Unit {0}
AreArrays [] (words ∷ given) = ⊥
AreArrays (a ∷ arrays) [] = ⊥
AreArrays (a ∷ arrays) (words ∷ given) = IsArray a words × AreArrays arrays given
