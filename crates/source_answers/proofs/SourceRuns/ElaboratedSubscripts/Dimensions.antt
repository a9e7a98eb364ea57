-- How many dimensions the objects have that names stand for.
use Rattle.std.proofs.Common.{◌≡◌, ℕ, suc, ◌==◌, ◌∙◌, sym, refl, ap, Bool, true, false, bytes_eq, List, [], ◌∷◌, map, length, slice_get, Option, Some, None, if◌then◌else◌, eqb-true, take}
use Rattle.std.specs.Prelude.{nat_le}
use Rattle.std.proofs.lemmas.Option.{same_Some}
use Rattle.hls_base.specs.ArrayAddress.{element_count}
use Rattle.c_tree.specs.Tree.{ObjectTree}
use Rattle.c_token.specs.Replacement.{is_in}
use Rattle.c_token.specs.declared.ctype.CType.{CType}
use Rattle.c_meaning.specs.Checks.Names.{Shape, object, function, Declared, sense_of}
use Rattle.c_meaning.specs.Checks.Lengths.{lengths_of, usable, with_first, all_usable, shape_of}
use Rattle.c_meaning.specs.Checks.Statements.{with_object}
use Rattle.c_meaning.specs.Store.{lengths_in, within_limits}
use Rattle.pieces.specs.declared.resolved.expression.Cell.{Cell}
use Rattle.pieces.specs.Resolved.Core.{CoreObjectTree, CoreFunctionTree}
use Rattle.c_elaborate.specs.declared.names.Binding.{Binding}
use Rattle.c_elaborate.specs.declared.functions.Signature.{Signature}
use Rattle.c_elaborate.specs.Names.{object_found, object_named, known_or_int, binding_of, function_number}
use Rattle.c_elaborate.specs.Resolved.{HasLengths}
use Rattle.c_elaborate.proofs.ElaborateRuns.Sizes.{shape_count}

-- ---- lengths

first_usable : (n : ℕ) (q : Option (List ℕ)) (ns : List ℕ) (m : ℕ) → ((ms : List ℕ) → q ≡ Some ms → length ms ≡ m) → with_first n q ≡ Some ns → length ns ≡ suc m
first_usable n None ns m h e = absurd cc
first_usable n (Some ms) ns m h e = let same : n ∷ ms ≡ ns = same_Some (n ∷ ms) ns e in ap length (sym same) ∙ ap suc (h ms refl)

usable_count : (xs : List (Option ℕ)) (ns : List ℕ) → all_usable xs ≡ Some ns → length ns ≡ length xs
usable_count [] ns e = ap length (sym (same_Some [] ns e))
usable_count (None ∷ xs) ns e = absurd cc
usable_count (Some n ∷ xs) ns e = first_usable n (all_usable xs) ns (length xs) (λ ms f. usable_count xs ms f) e

limited_count : (q : Option (List ℕ)) (m : ℕ) → ((ns : List ℕ) → q ≡ Some ns → length ns ≡ m) → (length (within_limits q) == 0) ≡ (m == 0) → length (within_limits q) ≡ m
limited_count None m h e = sym (eqb-true m 0 (sym e))
limited_count (Some ns) m h e = by (nat_le (element_count ns) 65536) e
  where
    by : (y : Bool) → (length (if y then ns else []) == 0) ≡ (m == 0) → length (if y then ns else []) ≡ m
    by true f = h ns refl
    by false f = sym (eqb-true m 0 (sym f))

-- an object has as many lengths in the core program as its declaration has
pub dimensions_kept : (o : ObjectTree) → HasLengths o → length (lengths_in o) ≡ length (shape_of o).lengths
dimensions_kept o has =
    limited_count (all_usable (map usable (lengths_of o))) (length (map usable (lengths_of o))) (λ ns e. usable_count (map usable (lengths_of o)) ns e) (has ∙ ap (λ n. n == 0) (sym (shape_count o)))

-- ---- names

-- objects have as many dimensions as their names say
abbrev pub ObjectsSized : (Cell → ℕ) → List Declared → List Binding → Type 0
ObjectsSized dimensions names rs = (text : List ℕ) (shape : Shape) → sense_of text names ≡ Some (object shape) → dimensions (object_named rs text).cell ≡ length shape.lengths

-- so have parameters
abbrev pub AreSized : List Shape → List CoreObjectTree → Type 0
AreSized xs [] = Unit {0}
AreSized [] (o ∷ os) = ⊥
AreSized (x ∷ xs) (o ∷ os) = (length o.lengths ≡ length x.lengths) × AreSized xs os

abbrev pub IsSized : List Shape → Option CoreFunctionTree → Type 0
IsSized params None = Unit {0}
IsSized params (Some fn) = AreSized params (take fn.params fn.objects)

abbrev pub FunctionsSized : List CoreFunctionTree → List Signature → List (List ℕ) → List Declared → Type 0
FunctionsSized functions fs bodies names =
    (text : List ℕ) (result : Option CType) (params : List Shape) → sense_of text names ≡ Some (function result params) → is_in text bodies ≡ true → IsSized params (slice_get functions (function_number fs text))

object_shapes : (s t : Shape) → Some (object s) ≡ Some (object t) → s ≡ t
object_shapes s t h = let e : s ≡ t = cc in e

-- one object more
pub objects_more : (dimensions : Cell → ℕ) (names : List Declared) (rs : List Binding) (o : ObjectTree) (cell : Cell) → dimensions cell ≡ length (shape_of o).lengths → ObjectsSized dimensions names rs → ObjectsSized dimensions (with_object o names) (binding_of o cell ∷ rs)
objects_more dimensions names rs o cell here h text shape e = by (bytes_eq text o.name) e
  where
    by : (y : Bool) → (if y then Some (object (shape_of o)) else sense_of text names) ≡ Some (object shape) → dimensions (known_or_int (if y then Some (binding_of o cell).object else object_found text rs)).cell ≡ length shape.lengths
    by true f = here ∙ ap (λ (s : Shape). length s.lengths) (object_shapes (shape_of o) shape f)
    by false f = h text shape f

pub functions_more : (functions : List CoreFunctionTree) (fs : List Signature) (bodies : List (List ℕ)) (names : List Declared) (o : ObjectTree) → FunctionsSized functions fs bodies names → FunctionsSized functions fs bodies (with_object o names)
functions_more functions fs bodies names o h text result params e inside = by (bytes_eq text o.name) e
  where
    by : (y : Bool) → (if y then Some (object (shape_of o)) else sense_of text names) ≡ Some (function result params) → IsSized params (slice_get functions (function_number fs text))
    by true f = absurd cc
    by false f = h text result params f inside
