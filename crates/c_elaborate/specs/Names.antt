-- What names stand for: C11 6.2.1.
use Rattle.std.specs.Prelude.{ℕ, ◌+◌, Bool, false, List, [], ◌∷◌, length, not, ◌==◌, bytes_eq, Option, Some, None, if◌then◌else◌}
use Rattle.c_token.specs.declared.ctype.CType.{CType}
use Rattle.c_tree.specs.Tree.{ObjectTree}
use Rattle.c_value.specs.Values.{int_type}
use Rattle.pieces.specs.declared.resolved.expression.Cell.{Cell}
use Rattle.pieces.specs.declared.resolved.expression.Scope.{Scope}
use Rattle.pieces.specs.declared.resolved.expression.Scope.TheVariants as scope
use Rattle.c_elaborate.specs.declared.names.Known.{Known}
use Rattle.c_elaborate.specs.declared.names.Binding.{Binding}
use Rattle.c_elaborate.specs.declared.functions.Signature.{Signature}

-- ---- objects

-- The names that are visible at a place are listed from the latest to the earliest, so an inner one hides an outer one (C11 6.2.1 paragraph 4).
abbrev pub object_found : List ℕ → List Binding → Option Known
object_found name [] = None
object_found name (b ∷ bs) = if bytes_eq name b.name then Some b.object else object_found name bs

-- Every name of a program without faults is declared.
abbrev pub known_or_int : Option Known → Known
known_or_int (Some object) = object
known_or_int None = record { cell = record { scope = scope.File; number = 0 }; kind = int_type; is_array = false }

abbrev pub object_named : List Binding → List ℕ → Known
object_named names name = known_or_int (object_found name names)

-- a declaration of an object that stands in this cell
abbrev pub binding_of : ObjectTree → Cell → Binding
binding_of o cell = record { name = o.name; object = record { cell = cell; kind = o.kind; is_array = not (length o.lengths == 0) } }

abbrev pub cell_of : Scope → ℕ → Cell
cell_of scope number = record { scope = scope; number = number }

-- ---- functions with a body, which are numbered in their order

-- the number of the first function of this name, or of no function
abbrev pub function_number : List Signature → List ℕ → ℕ
function_number [] name = 0
function_number (f ∷ fs) name = if bytes_eq f.name name then 0 else function_number fs name + 1

-- the type of what it gives
abbrev pub result_of : List Signature → List ℕ → Option CType
result_of [] name = None
result_of (f ∷ fs) name = if bytes_eq f.name name then f.result else result_of fs name
