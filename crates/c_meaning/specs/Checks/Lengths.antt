-- The lengths of arrays, and initialisers: C11 6.6, 6.7.6.2, 6.7.9.
use Rattle.std.specs.Prelude.{length, drop, ◌==◌, ℕ, ◌+◌, ◌^◌, ◌&&◌, ◌||◌, not, nat_lt, nat_le, Bool, true, false, List, [], ◌∷◌, ◌++◌, map, ℤ, pos, Option, Some, None, is_none, if◌then◌else◌}
use Rattle.std.specs.List.{list_any}
use Rattle.hls_base.specs.declared.refusal.Refusal.{Refusal}
use Rattle.hls_base.specs.ArrayAddress.{address_bits}
use Rattle.c_tree.specs.Tree as tree
use Rattle.c_tree.specs.Tree.{Tree, InitTree, InitTrees, ObjectTree}
use Rattle.c_value.specs.Constant as c
use Rattle.c_value.specs.Constant.{ConstantValue, constant_value}
use Rattle.c_meaning.specs.Checks.Faults.{fault_if}
use Rattle.c_meaning.specs.Checks.Names.{Shape}

-- ---- lengths

-- a length: a number, or left out, or no constant with a value
pub data Length : Type 0 where
  number : ℤ → Length
  left_out : Length
  no_constant : Length

abbrev pub length_of_value : ConstantValue → Length
length_of_value (c.constant kind n) = number n
length_of_value _ = no_constant

abbrev pub written_length : Option Tree → Length
written_length None = left_out
written_length (Some t) = length_of_value (constant_value t)

abbrev pub item_count : InitTrees → ℕ
item_count tree.no_init = 0
item_count (tree.more_inits first rest) = item_count rest + 1

-- The first length may be left out where an initialiser list is there, and is then the number of items (C11 6.7.9 paragraph 22).
abbrev pub items_in : Option InitTree → Option ℕ
items_in (Some (tree.braced items at)) = Some (item_count items)
items_in _ = None

abbrev pub length_of : Option ℕ → Option Tree → Length
length_of (Some items) None = number (pos items)
length_of items length = written_length length

abbrev pub all_lengths : Option ℕ → List (Option Tree) → List Length
all_lengths items [] = []
all_lengths items (length ∷ lengths) = length_of items length ∷ all_lengths None lengths

abbrev pub lengths_of : ObjectTree → List Length
lengths_of o = all_lengths (items_in o.init) o.lengths

-- a length is 1 to 65,536
abbrev pub usable : Length → Option ℕ
usable (number (pos n)) = if nat_lt 0 n && nat_le n 65536 then Some n else None
usable _ = None

abbrev pub shape_of : ObjectTree → Shape
shape_of o = record { kind = o.kind; constant = o.constant; lengths = map usable (lengths_of o) }

-- all of them, where none is at fault
abbrev pub with_first : ℕ → Option (List ℕ) → Option (List ℕ)
with_first n None = None
with_first n (Some ns) = Some (n ∷ ns)

abbrev pub all_usable : List (Option ℕ) → Option (List ℕ)
all_usable [] = Some []
all_usable (None ∷ ns) = None
all_usable (Some n ∷ ns) = with_first n (all_usable ns)

-- the product of the lengths, each rounded up to a power of two, at least 2; 0 where one is at fault
abbrev pub product_of : Option (List ℕ) → ℕ
product_of None = 0
product_of (Some ns) = 2 ^ address_bits ns

abbrev pub rounded_product : List (Option ℕ) → ℕ
rounded_product lengths = product_of (all_usable lengths)

-- Rule 13: a length is there and is 1 to 65,536, and so is the product of the rounded lengths. C itself asks for more than 0, C11 6.7.6.2 paragraph 1.
abbrev pub is_out_of_range : Length → Bool
is_out_of_range (number n) = is_none (usable (number n))
is_out_of_range left_out = true
is_out_of_range no_constant = false

abbrev pub has_bad_length : List Length → Bool
has_bad_length lengths = list_any is_out_of_range lengths || nat_lt 65536 (rounded_product (map usable lengths))

-- Rule 17: a length is a constant expression with a value, C11 6.7.6.2 paragraph 4.
abbrev pub is_no_constant : Length → Bool
is_no_constant no_constant = true
is_no_constant _ = false

-- ---- initialisers

-- Rule 22: an initialiser has a level of braces for each dimension, and at each level no more items than the dimension is long. C11 6.7.9 paragraphs 2 and 16.
abbrev pub exceeds : ℕ → Option ℕ → Bool
exceeds items None = false
exceeds items (Some n) = nat_lt n items

-- a scalar has no braces
abbrev pub overflows : List (Option ℕ) → ℕ → Bool
overflows [] items = true
overflows (n ∷ ns) items = exceeds items n

abbrev mutual
  pub is_misshapen : List (Option ℕ) → InitTree → Bool
  is_misshapen lengths (tree.single value) = not (length lengths == 0)
  is_misshapen lengths (tree.braced items at) = overflows lengths (item_count items) || are_misshapen (drop 1 lengths) items

  pub are_misshapen : List (Option ℕ) → InitTrees → Bool
  are_misshapen lengths tree.no_init = false
  are_misshapen lengths (tree.more_inits first rest) = is_misshapen lengths first || are_misshapen lengths rest

abbrev pub has_bad_shape : List (Option ℕ) → Option InitTree → Bool
has_bad_shape lengths None = false
has_bad_shape lengths (Some init) = is_misshapen lengths init

-- Rule 17: at file scope an initialiser is of constant expressions with values, C11 6.7.9 paragraph 4.
abbrev pub has_value : ConstantValue → Bool
has_value (c.constant kind n) = true
has_value _ = false

abbrev mutual
  pub is_fixed : InitTree → Bool
  is_fixed (tree.single value) = has_value (constant_value value)
  is_fixed (tree.braced items at) = are_fixed items

  pub are_fixed : InitTrees → Bool
  are_fixed tree.no_init = true
  are_fixed (tree.more_inits first rest) = is_fixed first && are_fixed rest

abbrev pub is_variable : Option InitTree → Bool
is_variable None = false
is_variable (Some init) = not (is_fixed init)

-- ---- the faults of a declaration that its lengths and the form of its initialiser make

-- of an object, and whether it stands at file scope
abbrev pub form_faults : Bool → ObjectTree → List Refusal
form_faults at_file o =
    fault_if (has_bad_length (lengths_of o)) 13 o.at
    ++ (fault_if (list_any is_no_constant (lengths_of o) || (at_file && is_variable o.init)) 17 o.at
    ++ fault_if (has_bad_shape (map usable (lengths_of o)) o.init) 22 o.at)
