-- Inputs that a function may be started with: one number for each scalar parameter, and one list of the right length for each array parameter, each number within its width.
use Rattle.std.specs.Prelude.{ℕ, ◌^◌, ◌==◌, ◌&&◌, nat_lt, Bool, false, List, [], ◌∷◌, length, if◌then◌else◌}
use Rattle.std.specs.List.{list_all}
use Rattle.hls_base.specs.ArrayAddress.{element_count}
use Rattle.c_token.specs.declared.ctype.CType.{CType}
use Rattle.c_tree.specs.Tree.{ObjectTree, ParamTree}
use Rattle.c_value.specs.Values.{width}
use Rattle.c_meaning.specs.Store.{lengths_in}
use Rattle.c_meaning.specs.Run.{is_array_parameter}

abbrev pub word_fits : CType → ℕ → Bool
word_fits kind word = nat_lt word (2 ^ width kind)

abbrev pub words_fit : CType → List ℕ → Bool
words_fit kind words = list_all (word_fits kind) words

abbrev pub array_fits : ObjectTree → List ℕ → Bool
array_fits o words = (length words == element_count (lengths_in o)) && words_fit o.kind words

-- the first of the words or arrays is that of a parameter, and the others are those of the parameters behind it
abbrev pub first_fits : {A : Type 0} → List A → (A → Bool) → (List A → Bool) → Bool
first_fits [] fits others = false
first_fits (a ∷ rest) fits others = fits a && others rest

abbrev pub scalars_fit : List ParamTree → List ℕ → Bool
scalars_fit [] words = length words == 0
scalars_fit (p ∷ ps) words = if is_array_parameter p then scalars_fit ps words else first_fits words (word_fits p.object.kind) (scalars_fit ps)

abbrev pub arrays_fit : List ParamTree → List (List ℕ) → Bool
arrays_fit [] arrays = length arrays == 0
arrays_fit (p ∷ ps) arrays = if is_array_parameter p then first_fits arrays (array_fits p.object) (arrays_fit ps) else arrays_fit ps arrays

abbrev pub inputs_fit : List ParamTree → List ℕ → List (List ℕ) → Bool
inputs_fit params scalars arrays = scalars_fit params scalars && arrays_fit params arrays
