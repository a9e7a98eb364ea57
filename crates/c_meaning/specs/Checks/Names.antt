-- What names stand for, and where: C11 6.2.1, 6.2.3, 6.7.
use Rattle.std.specs.Prelude.{◌-◌, take, is_some, ℕ, ◌+◌, ◌==◌, ◌++◌, not, Bool, true, false, List, [], ◌∷◌, length, bytes_eq, Option, Some, None, if◌then◌else◌}
use Rattle.hls_base.specs.declared.place.Place.{Place}
use Rattle.hls_base.specs.declared.refusal.Refusal.{Refusal}
use Rattle.c_token.specs.declared.ctype.CType.{CType}
use Rattle.c_tree.specs.Tree as tree
use Rattle.c_tree.specs.Tree.{Tree, Trees}
use Rattle.c_value.specs.Values.{int_type, common}
use Rattle.c_value.specs.Operators.{unary_kind, binary_kind}
use Rattle.c_meaning.specs.Checks.Faults.{fault, fault_if}

-- The type of an object. A scalar has no lengths; a length that is at fault is none.
pub record Shape : Type 0 where
  pub kind : CType
  pub constant : Bool
  pub lengths : List (Option ℕ)

abbrev pub is_array : Shape → Bool
is_array shape = not (length shape.lengths == 0)

-- what a name stands for: an object, or a function with its result and parameters
pub data Sense : Type 0 where
  object : Shape → Sense
  function : (result : Option CType) (params : List Shape) → Sense

-- a name that is declared
pub record Declared : Type 0 where
  pub name : List ℕ
  pub sense : Sense

-- The names that are visible at a place are listed from the latest to the earliest, so an inner one hides an outer one (C11 6.2.1 paragraph 4).
abbrev pub sense_of : List ℕ → List Declared → Option Sense
sense_of name [] = None
sense_of name (d ∷ ds) = if bytes_eq name d.name then Some d.sense else sense_of name ds

-- A scope is given by the number of names that are visible where it begins.
abbrev pub names_since : ℕ → List Declared → List Declared
names_since start names = take (length names - start) names

-- Rule 8: a name is declared once in one scope, C11 6.7 paragraph 3.
abbrev pub is_declared_since : ℕ → List ℕ → List Declared → Bool
is_declared_since start name names = is_some (sense_of name (names_since start names))

-- ---- uses of names

-- how many subscripts or arguments there are
abbrev pub count : Trees → ℕ
count tree.none = 0
count (tree.more first rest) = count rest + 1

abbrev pub same_flag : Bool → Bool → Bool
same_flag true b = b
same_flag false b = not b

-- Rule 9: an array is used by its elements, and a scalar has none. Rule 10: an element has as many subscripts as the array has dimensions. C11 6.5.2.1.
abbrev pub dimension_faults : ℕ → ℕ → Place → List Refusal
dimension_faults dimensions subscripts at =
    if same_flag (dimensions == 0) (subscripts == 0)
    then fault_if (not (dimensions == subscripts)) 10 at
    else fault 9 at ∷ []

-- Rule 7: a name is declared before it is used, C11 6.5.1. Rule 9: a function is no object.
abbrev pub use_faults : Option Sense → ℕ → Place → List Refusal
use_faults None subscripts at = fault 7 at ∷ []
use_faults (Some (function result params)) subscripts at = fault 9 at ∷ []
use_faults (Some (object shape)) subscripts at = dimension_faults (length shape.lengths) subscripts at

abbrev pub is_constant_object : Option Sense → Bool
is_constant_object (Some (object shape)) = shape.constant
is_constant_object _ = false

-- Rule 12: a const object is not assigned, C11 6.5.16 paragraph 2.
abbrev pub target_faults : Option Sense → ℕ → Place → List Refusal
target_faults sense subscripts at = use_faults sense subscripts at ++ fault_if (is_constant_object sense) 12 at

-- ---- types of expressions

abbrev pub object_kind : Option Sense → CType
object_kind (Some (object shape)) = shape.kind
object_kind _ = int_type

abbrev pub result_kind : Option Sense → CType
result_kind (Some (function (Some kind) params)) = kind
result_kind _ = int_type

-- the type of an expression, C11 6.5; int where a fault leaves it open
abbrev pub kind_of : List Declared → Tree → CType
kind_of names (tree.number value kind at) = kind
kind_of names (tree.name text at) = object_kind (sense_of text names)
kind_of names (tree.index array subscripts at) = object_kind (sense_of array names)
kind_of names (tree.call callee args at) = result_kind (sense_of callee names)
kind_of names (tree.unary op arg at) = unary_kind op (kind_of names arg)
kind_of names (tree.binary op left right at) = binary_kind op (kind_of names left) (kind_of names right)
kind_of names (tree.choice test left right at colon) = common (kind_of names left) (kind_of names right)
kind_of names (tree.cast to arg at) = to
kind_of names (tree.assign (tree.target text subscripts place) op value at) = object_kind (sense_of text names)
kind_of names (tree.bump (tree.target text subscripts place) up post at) = object_kind (sense_of text names)
kind_of names (tree.comma left right at) = kind_of names right
