-- How many operations an expression becomes at most.
use Rattle.std.specs.Prelude.{ℕ, ◌+◌, nat_eq, Bool, true, false, not, ◌&&◌, if◌then◌else◌}
use Rattle.c_token.specs.declared.ctype.CType.{CType}
use Rattle.c_token.specs.declared.ctype.CType.TheVariants as type
use Rattle.c_tree.specs.declared.operator.Unary.{Unary}
use Rattle.c_tree.specs.declared.operator.Unary.TheVariants as u
use Rattle.c_tree.specs.declared.operator.Binary.{Binary}
use Rattle.c_tree.specs.declared.operator.Binary.TheVariants as b
use Rattle.c_value.specs.Values.{int_type, width, promoted}
use Rattle.pieces.specs.Trees as tree
use Rattle.pieces.specs.Trees.{PureTree, PureTrees}
use Rattle.pieces.specs.Kind.{kind}
use Rattle.passes.specs.Lowering.Expressions.{left_type, right_type}

abbrev pub one_if : Bool → ℕ
one_if true = 1
one_if false = 0

-- ---- what is given

abbrev pub compares : Binary → Bool
compares b.Lt = true
compares b.Gt = true
compares b.Le = true
compares b.Ge = true
compares b.Eq = true
compares b.Ne = true
compares b.LogAnd = true
compares b.LogOr = true
compares op = false

abbrev pub negates : Unary → Bool
negates u.LogNot = true
negates op = false

-- A comparison, `!`, `&&` and `||` give one bit, which becomes an int where a value is needed.
abbrev pub gives_bit : PureTree → Bool
gives_bit (tree.unary op arg k at) = negates op
gives_bit (tree.binary op left right k at) = compares op
gives_bit e = false

abbrev pub given_kind : PureTree → CType
given_kind e = if gives_bit e then int_type else kind e

abbrev pub is_number : PureTree → Bool
is_number (tree.number word k) = true
is_number e = false

abbrev pub is_bool : CType → Bool
is_bool type.Bool = true
is_bool (type.Int signed bits) = false

-- ---- where it stands

-- where a value is needed
abbrev pub as_value : PureTree → ℕ
as_value e = one_if (gives_bit e)

-- where a condition is needed: in the test of a fork, a loop or a choice, and in the operands of `!`, `&&` and `||`
abbrev pub as_condition : PureTree → ℕ
as_condition e = one_if (not (gives_bit e) && not (is_bool (kind e)))

-- A conversion between types of different widths is an operation, but for that of a number.
abbrev pub conversion : PureTree → CType → CType → ℕ
conversion e from to = one_if (not (is_number e) && not (nat_eq (width from) (width to)))

-- as an assignment or a cast converts it
abbrev pub as_assigned : PureTree → CType → ℕ
as_assigned e to = as_value e + conversion e (given_kind e) to

-- as an operator converts its operand: promoted, and then to the type of the operator
abbrev pub as_operand : PureTree → CType → ℕ
as_operand e to = as_assigned e (promoted (given_kind e)) + conversion e (promoted (given_kind e)) to

-- ---- operators

abbrev pub unary_count : Unary → PureTree → CType → ℕ
unary_count u.LogNot arg k = 1 + as_condition arg
unary_count u.Plus arg k = as_operand arg k
unary_count op arg k = 1 + as_operand arg k

-- `&&` and `||` need two operations for their guard.
abbrev pub binary_count : Binary → PureTree → PureTree → CType → ℕ
binary_count b.LogAnd left right k = 3 + as_condition left + as_condition right
binary_count b.LogOr left right k = 3 + as_condition left + as_condition right
binary_count op left right k = 1 + as_operand left (left_type op (given_kind left) (kind right) k) + as_operand right (right_type op (given_kind left) (kind right) k)

-- A choice needs three for its guards.
abbrev pub choice_count : PureTree → PureTree → PureTree → CType → ℕ
choice_count test left right k = 4 + as_condition test + as_operand left k + as_operand right k

-- ---- expressions

abbrev mutual
  pub count : PureTree → ℕ
  count (tree.number word k) = 0
  count (tree.variable name k) = 0
  count (tree.element array subscripts k at) = 1 + subscript_count subscripts
  count (tree.unary op arg k at) = count arg + unary_count op arg k
  count (tree.binary op left right k at) = count left + count right + binary_count op left right k
  count (tree.choice test left right k) = count test + count left + count right + choice_count test left right k
  count (tree.cast to arg) = count arg + as_assigned arg to

  pub subscript_count : PureTrees → ℕ
  subscript_count tree.none = 0
  subscript_count (tree.more first rest) = count first + as_value first + subscript_count rest
