-- Constant expressions: C11 6.6. They are numbers, unary and binary operators, `?:` and casts.
use Rattle.std.specs.Prelude.{Bool, true, false, ◌&&◌, ℤ, pos, if◌then◌else◌}
use Rattle.hls_base.specs.declared.refusal.UbRule.{UbRule}
use Rattle.c_token.specs.declared.ctype.CType.{CType}
use Rattle.c_tree.specs.declared.operator.Binary.{Binary}
use Rattle.c_tree.specs.declared.operator.Binary.TheVariants as b
use Rattle.c_tree.specs.Tree as tree
use Rattle.c_tree.specs.Tree.{Tree}
use Rattle.c_value.specs.Values.{int_type, convert, common}
use Rattle.c_value.specs.Operators.{Computed, defined, undefined, truth, is_true, unary_kind, binary_kind, unary_value, binary_value}

-- Whether the tree has the form of a constant expression. An operand that is not evaluated must have it too.
abbrev pub is_constant : Tree → Bool
is_constant (tree.number value kind at) = true
is_constant (tree.unary op arg at) = is_constant arg
is_constant (tree.binary op left right at) = is_constant left && is_constant right
is_constant (tree.choice test left right at colon) = is_constant test && is_constant left && is_constant right
is_constant (tree.cast to arg at) = is_constant arg
is_constant _ = false

-- the type of a tree of this form
abbrev pub constant_kind : Tree → CType
constant_kind (tree.number value kind at) = kind
constant_kind (tree.unary op arg at) = unary_kind op (constant_kind arg)
constant_kind (tree.binary op left right at) = binary_kind op (constant_kind left) (constant_kind right)
constant_kind (tree.choice test left right at colon) = common (constant_kind left) (constant_kind right)
constant_kind (tree.cast to arg at) = to
constant_kind _ = int_type

-- what comes of the number, if there is one
abbrev pub then_compute : Computed → (ℤ → Computed) → Computed
then_compute (defined n) next = next n
then_compute (undefined rule) next = undefined rule

-- Operands are evaluated from left to right. Behind a first operand that is the number x, `&&` and `||` evaluate the second one only where it decides (C11 6.5.13, 6.5.14).
abbrev pub as_truth : Computed → Computed
as_truth right = then_compute right (λ y. defined (truth (is_true y)))

abbrev pub operated : Binary → CType → ℤ → CType → Computed → Computed
operated b.LogAnd left x right second = if is_true x then as_truth second else defined (pos 0)
operated b.LogOr left x right second = if is_true x then defined (pos 1) else as_truth second
operated op left x right second = then_compute second (binary_value op left x right)

-- the number of a tree of this form
abbrev pub constant_number : Tree → Computed
constant_number (tree.number value kind at) = defined (pos value)
constant_number (tree.unary op arg at) = then_compute (constant_number arg) (unary_value op (constant_kind arg))
constant_number (tree.binary op left right at) =
    then_compute (constant_number left) (λ x. operated op (constant_kind left) x (constant_kind right) (constant_number right))
constant_number (tree.choice test left right at colon) =
    then_compute (constant_number test) (λ x. then_compute (if is_true x then constant_number left else constant_number right)
    (λ y. defined (convert (common (constant_kind left) (constant_kind right)) y)))
constant_number (tree.cast to arg at) = then_compute (constant_number arg) (λ n. defined (convert to n))
constant_number _ = defined (pos 0)

-- A tree is a constant of a type and number; or it has the form, and its value is undefined by this rule; or it has not the form.
pub data ConstantValue : Type 0 where
  constant : (kind : CType) (number : ℤ) → ConstantValue
  undefined_constant : (rule : UbRule) → ConstantValue
  not_constant : ConstantValue

abbrev pub constant_of : CType → Computed → ConstantValue
constant_of kind (defined n) = constant kind n
constant_of kind (undefined rule) = undefined_constant rule

abbrev pub constant_value : Tree → ConstantValue
constant_value t = if is_constant t then constant_of (constant_kind t) (constant_number t) else not_constant
