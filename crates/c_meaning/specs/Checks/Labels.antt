-- Labels and jumps: C11 6.8.1, 6.8.4.2, 6.8.6.
use Rattle.std.specs.Prelude.{not, Bool, true, false, List, [], ◌∷◌, ◌++◌, ℤ, Option, Some, None, is_some}
use Rattle.std.specs.Ordering.{int_eq}
use Rattle.std.specs.List.{list_any}
use Rattle.hls_base.specs.declared.place.Place.{Place}
use Rattle.hls_base.specs.declared.refusal.Refusal.{Refusal}
use Rattle.c_token.specs.declared.ctype.CType.{CType}
use Rattle.c_tree.specs.Tree as tree
use Rattle.c_tree.specs.Tree.{Tree, StmtTree, StmtTrees}
use Rattle.c_value.specs.Values.{convert}
use Rattle.c_value.specs.Constant as c
use Rattle.c_value.specs.Constant.{ConstantValue, constant_value}
use Rattle.c_meaning.specs.Checks.Faults.{fault_if}
use Rattle.c_meaning.specs.Checks.Lengths.{has_value}

-- What a statement stands in: a function with this result, a loop or switch, a loop, and whether directly in the block of a switch.
pub record Around : Type 0 where
  pub result : Option CType
  pub breaks : Bool
  pub continues : Bool
  pub labels : Bool

abbrev pub in_function : Option CType → Around
in_function result = record { result = result; breaks = false; continues = false; labels = false }

abbrev pub in_part : Around → Around
in_part around = record { result = around.result; breaks = around.breaks; continues = around.continues; labels = false }

abbrev pub in_loop : Around → Around
in_loop around = record { result = around.result; breaks = true; continues = true; labels = false }

abbrev pub in_switch : Around → Around
in_switch around = record { result = around.result; breaks = true; continues = around.continues; labels = true }

-- Rule 14: a function without a result returns no value, and every other one returns one. C11 6.8.6.4 paragraph 1.
abbrev pub is_mismatched : Option CType → Bool → Bool
is_mismatched None has_value = has_value
is_mismatched (Some kind) has_value = not has_value

abbrev pub return_faults : Option CType → Option Tree → Place → List Refusal
return_faults result value at = fault_if (is_mismatched result (is_some value)) 14 at

-- Rule 15: break stands in a loop or a switch, continue in a loop, and a label directly in the block of a switch (C11 6.8.1 paragraph 2, 6.8.6.2, 6.8.6.3).
abbrev pub outside_faults : Bool → Place → List Refusal
outside_faults inside at = fault_if (not inside) 15 at

-- Rule 17: the value of a case is a constant expression with a value, C11 6.8.4.2 paragraph 3.
abbrev pub has_no_value : Option Tree → Bool
has_no_value None = false
has_no_value (Some t) = not (has_value (constant_value t))

-- ---- the labels of a switch

-- what a label asks for: a number, the default, or nothing where its value is at fault
pub data Label : Type 0 where
  case_of : ℤ → Label
  default : Label
  faulty : Label

pub record LabelAt : Type 0 where
  pub label : Label
  pub at : Place

-- the value of a case is converted to the promoted type of the controlling expression, C11 6.8.4.2 paragraph 5
abbrev pub label_of_value : CType → ConstantValue → Label
label_of_value kind (c.constant from n) = case_of (convert kind n)
label_of_value kind _ = faulty

abbrev pub label_of : CType → Option Tree → Label
label_of kind None = default
label_of kind (Some t) = label_of_value kind (constant_value t)

-- the labels of a statement, and of the statement that they label
abbrev pub labels_of : CType → StmtTree → List LabelAt
labels_of kind (tree.case_ value body at) = record { label = label_of kind value; at = at } ∷ labels_of kind body
labels_of kind _ = []

abbrev pub block_labels : CType → StmtTrees → List LabelAt
block_labels kind tree.no_stmt = []
block_labels kind (tree.more_stmts first rest) = labels_of kind first ++ block_labels kind rest

abbrev pub same_label : Label → Label → Bool
same_label (case_of n) (case_of m) = int_eq n m
same_label default default = true
same_label _ _ = false

abbrev pub is_label_among : Label → List LabelAt → Bool
is_label_among label labels = list_any (λ l. same_label label l.label) labels

-- Rule 16: no two labels of a switch are the same, C11 6.8.4.2 paragraph 3. The later ones are at fault.
abbrev pub repeated_faults : List LabelAt → List LabelAt → List Refusal
repeated_faults before [] = []
repeated_faults before (l ∷ ls) = fault_if (is_label_among l.label before) 16 l.at ++ repeated_faults (before ++ l ∷ []) ls
