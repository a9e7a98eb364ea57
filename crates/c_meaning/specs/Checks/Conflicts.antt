-- Changes in conflict: C11 6.5 paragraph 2. Two accesses of one name, of which one is a change and which have no order in C, are refused; so are elements of one array whose subscripts differ, and operands that may not be reached.
use Rattle.std.specs.Prelude.{ℕ, ◌==◌, Bool, true, false, List, [], ◌∷◌, ◌++◌, length, bytes_eq, Option, Some, if◌then◌else◌}
use Rattle.std.specs.List.{list_any}
use Rattle.hls_base.specs.declared.place.Place.{Place}
use Rattle.hls_base.specs.declared.refusal.Refusal.{Refusal}
use Rattle.c_tree.specs.declared.operator.Binary.{Binary}
use Rattle.c_tree.specs.declared.operator.Binary.TheVariants as b
use Rattle.c_tree.specs.Tree as tree
use Rattle.c_tree.specs.Tree.{Tree, TargetTree, Trees}
use Rattle.c_meaning.specs.Checks.Faults.{fault_if}
use Rattle.c_meaning.specs.Checks.Names.{Sense, object, Declared, sense_of, count, same_flag}

-- an access: a read of a name, or a change of it at an operator
pub data Access : Type 0 where
  read : (name : List ℕ) → Access
  change : (name : List ℕ) (at : Place) → Access

abbrev pub name_of : Access → List ℕ
name_of (read name) = name
name_of (change name at) = name

-- a scalar without subscripts or an array with some; all else has a fault of its own and is no access
abbrev pub is_access : Option Sense → ℕ → Bool
is_access (Some (object shape)) subscripts = same_flag (length shape.lengths == 0) (subscripts == 0)
is_access _ subscripts = false

abbrev pub one_if : Bool → Access → List Access
one_if true access = access ∷ []
one_if false access = []

abbrev pub read_of : List Declared → List ℕ → ℕ → List Access
read_of names text subscripts = one_if (is_access (sense_of text names) subscripts) (read text)

abbrev pub change_of : List Declared → List ℕ → ℕ → Place → List Access
change_of names text subscripts at = one_if (is_access (sense_of text names) subscripts) (change text at)

-- the accesses of an expression; an array that is given as an argument is none
abbrev mutual
  pub accesses : List Declared → Tree → List Access
  accesses names (tree.number value kind at) = []
  accesses names (tree.name text at) = read_of names text 0
  accesses names (tree.index array subscripts at) = read_of names array (count subscripts) ++ all_accesses names subscripts
  accesses names (tree.call callee args at) = all_accesses names args
  accesses names (tree.unary op arg at) = accesses names arg
  accesses names (tree.binary op left right at) = accesses names left ++ accesses names right
  accesses names (tree.choice test left right at colon) = accesses names test ++ (accesses names left ++ accesses names right)
  accesses names (tree.cast to arg at) = accesses names arg
  accesses names (tree.assign changed op value at) = target_accesses names changed at ++ accesses names value
  accesses names (tree.bump changed up post at) = target_accesses names changed at
  accesses names (tree.comma left right at) = accesses names left ++ accesses names right

  -- of a target that is changed at this operator
  pub target_accesses : List Declared → TargetTree → Place → List Access
  target_accesses names (tree.target text subscripts place) at = change_of names text (count subscripts) at ++ all_accesses names subscripts

  pub all_accesses : List Declared → Trees → List Access
  all_accesses names tree.none = []
  all_accesses names (tree.more first rest) = accesses names first ++ all_accesses names rest

-- ---- rule 24

abbrev pub names_it : List ℕ → Access → Bool
names_it name access = bytes_eq name (name_of access)

-- the change is at fault where its name is among those of these accesses
abbrev pub clash : Access → List Access → List Refusal
clash (read name) others = []
clash (change name at) others = fault_if (list_any (names_it name) others) 24 at

abbrev pub clashes : List Access → List Access → List Refusal
clashes [] others = []
clashes (access ∷ rest) others = clash access others ++ clashes rest others

-- between two parts that C leaves without an order, each change of a name that the other part accesses
abbrev pub between : List Access → List Access → List Refusal
between these those = clashes these those ++ clashes those these

-- the two operands of a binary operator other than `&&` and `||`
abbrev pub is_logical : Binary → Bool
is_logical b.LogAnd = true
is_logical b.LogOr = true
is_logical _ = false

abbrev pub operand_conflicts : Binary → List Access → List Access → List Refusal
operand_conflicts op left right = if is_logical op then [] else between left right

-- two subscripts of one element, or two arguments of one call, where those before have these accesses
abbrev pub conflicts_among : List Declared → List Access → Trees → List Refusal
conflicts_among names before tree.none = []
conflicts_among names before (tree.more first rest) = between before (accesses names first) ++ conflicts_among names (before ++ accesses names first) rest

-- an access, and the changes inside it: of an element that is read those in its subscripts, of a target those in its subscripts and in the value assigned to it
abbrev pub changes : List Access → List Access
changes [] = []
changes (read name ∷ rest) = changes rest
changes (change name at ∷ rest) = change name at ∷ changes rest

abbrev pub conflicts_inside : List Access → List Access → List Refusal
conflicts_inside own inner = clashes own (changes inner) ++ clashes inner own
