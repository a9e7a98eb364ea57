-- Whether the objects that names stand for are const.
use Rattle.std.proofs.Common.{◌≡◌, ℕ, ◌∙◌, ap, Bool, true, false, bytes_eq, List, [], ◌∷◌, length, slice_get, Option, Some, None, if◌then◌else◌, take}
use Rattle.c_tree.specs.Tree.{ObjectTree}
use Rattle.c_token.specs.Replacement.{is_in}
use Rattle.c_token.specs.declared.ctype.CType.{CType}
use Rattle.c_meaning.specs.Checks.Names.{Shape, is_array, object, function, Declared, sense_of}
use Rattle.c_meaning.specs.Checks.Lengths.{shape_of}
use Rattle.c_meaning.specs.Checks.Statements.{with_object}
use Rattle.pieces.specs.declared.resolved.expression.Cell.{Cell}
use Rattle.pieces.specs.Resolved.Core.{CoreObjectTree, CoreFunctionTree}
use Rattle.c_elaborate.specs.declared.names.Binding.{Binding}
use Rattle.c_elaborate.specs.declared.functions.Signature.{Signature}
use Rattle.c_elaborate.specs.Names.{object_found, object_named, known_or_int, binding_of, function_number}

-- objects are const where their names say so
abbrev pub ObjectsMarked : (Cell → Bool) → List Declared → List Binding → Type 0
ObjectsMarked constant names rs = (text : List ℕ) (shape : Shape) → sense_of text names ≡ Some (object shape) → constant (object_named rs text).cell ≡ shape.constant

-- A parameter has as many dimensions as a declaration says, and an array is const where it says so.
abbrev pub IsMarkedAs : Shape → CoreObjectTree → Type 0
IsMarkedAs x o = (length o.lengths ≡ length x.lengths) × (is_array x ≡ true → o.constant ≡ x.constant)

abbrev pub AreMarked : List Shape → List CoreObjectTree → Type 0
AreMarked xs [] = Unit {0}
AreMarked [] (o ∷ os) = ⊥
AreMarked (x ∷ xs) (o ∷ os) = IsMarkedAs x o × AreMarked xs os

abbrev pub IsMarked : List Shape → Option CoreFunctionTree → Type 0
IsMarked params None = Unit {0}
IsMarked params (Some fn) = AreMarked params (take fn.params fn.objects)

abbrev pub FunctionsMarked : List CoreFunctionTree → List Signature → List (List ℕ) → List Declared → Type 0
FunctionsMarked functions fs bodies names =
    (text : List ℕ) (result : Option CType) (params : List Shape) → sense_of text names ≡ Some (function result params) → is_in text bodies ≡ true → IsMarked params (slice_get functions (function_number fs text))

object_shapes : (s t : Shape) → Some (object s) ≡ Some (object t) → s ≡ t
object_shapes s t h = let e : s ≡ t = cc in e

-- one object more
pub objects_more : (constant : Cell → Bool) (names : List Declared) (rs : List Binding) (o : ObjectTree) (cell : Cell) → constant cell ≡ o.constant → ObjectsMarked constant names rs → ObjectsMarked constant (with_object o names) (binding_of o cell ∷ rs)
objects_more constant names rs o cell here h text shape e = by (bytes_eq text o.name) e
  where
    by : (y : Bool) → (if y then Some (object (shape_of o)) else sense_of text names) ≡ Some (object shape) → constant (known_or_int (if y then Some (binding_of o cell).object else object_found text rs)).cell ≡ shape.constant
    by true f = here ∙ ap (λ (s : Shape). s.constant) (object_shapes (shape_of o) shape f)
    by false f = h text shape f

pub functions_more : (functions : List CoreFunctionTree) (fs : List Signature) (bodies : List (List ℕ)) (names : List Declared) (o : ObjectTree) → FunctionsMarked functions fs bodies names → FunctionsMarked functions fs bodies (with_object o names)
functions_more functions fs bodies names o h text result params e inside = by (bytes_eq text o.name) e
  where
    by : (y : Bool) → (if y then Some (object (shape_of o)) else sense_of text names) ≡ Some (function result params) → IsMarked params (slice_get functions (function_number fs text))
    by true f = absurd cc
    by false f = h text result params f inside
