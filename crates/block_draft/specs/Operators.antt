-- The parts of what expressions become, step by step.
use Rattle.std.specs.Prelude.{◌&&◌, Bool, true, false, List, [], ◌∷◌, ◌++◌, Option, Some, None, if◌then◌else◌}
use denote.Ref.{Bor}
use Rattle.c_token.specs.declared.ctype.CType.{CType}
use Rattle.c_tree.specs.declared.operator.Binary.{Binary}
use Rattle.c_tree.specs.declared.operator.Binary.TheVariants as b
use Rattle.c_value.specs.Values.{width, is_signed}
use Rattle.pieces.specs.Trees as tree
use Rattle.pieces.specs.Trees.{PureTree}
use Rattle.pieces.specs.Kind.{kind}
use Rattle.pieces.specs.View.{pure_of}
use Rattle.pieces.specs.declared.pure_expr.Pure.{Pure}
use Rattle.ir_core.specs.declared.body.OpKind.{OpKind}
use Rattle.ir_core.specs.declared.body.OpKind.TheVariants as o
use Rattle.ir_core.specs.declared.body.Operand.{Operand}
use Rattle.ir_core.specs.declared.body.Out.{Out}
use Rattle.ir_core.specs.Bodies.{OpTree}
use Rattle.passes.specs.Lowering.Operations.{Emitted, added, plain, defined, tested, balanced, kind_of}
use Rattle.passes.specs.Lowering.Guards.{Guard, only_where, outside}
use Rattle.passes.specs.Lowering.Expressions.{Evaluated, Subscripts, Next, with_value, with_truth, left_type, right_type, joined, binary, emitted}
use Rattle.block_draft.specs.declared.operations.Form.{Form}
use Rattle.block_draft.specs.declared.operations.Operations.{Operations}
use Rattle.block_draft.specs.declared.guards.Guard.{Guard as CodeGuard}
use Rattle.block_draft.specs.declared.expression.Operator.{Operator}
use Rattle.block_draft.specs.declared.expression.Kinds.{Kinds}
use Rattle.block_draft.specs.declared.expression.Comparison.{Comparison}
use Rattle.block_draft.specs.Views.{ops_of, guards_of, plain_form}

-- a binary operator behind its first operand
abbrev pub behind_left : List Out → PureTree → Evaluated → Evaluated
behind_left outs (tree.binary op left right k at) first = binary op (kind right) k at (emitted outs right) first
behind_left outs t first = first

-- operators one within another, the outermost first, behind what the innermost one's first operand gives
abbrev pub unwound : List Out → List (Bor Pure) → Evaluated → Evaluated
unwound outs [] first = first
unwound outs (operator ∷ operators) first = behind_left outs (pure_of operator.now) (unwound outs operators first)

-- these subscripts stand before others
abbrev pub with_front : List Operand → Subscripts → Subscripts
with_front xs s = record s { operands = xs ++ s.operands }

-- ---- `&&` and `||`

abbrev pub junction_of : Binary → Option Bool
junction_of b.LogAnd = Some true
junction_of b.LogOr = Some false
junction_of op = None

abbrev pub junction_form : Bool → Form
junction_form both = plain_form (if both then o.And else o.Or) 1

-- behind the bit of the first operand
abbrev pub joined_by : Bool → Next → List Guard → Emitted → Evaluated
joined_by both second guards x =
    let other = second x.ops (only_where x.operand both guards) in
    let y = tested other.ops other.given in
    with_truth (outside other.guards) (added y.ops (plain (if both then o.And else o.Or) 1 (x.operand ∷ y.operand ∷ [])))

-- ---- other operators

abbrev pub operand_kinds : Binary → CType → CType → CType → Kinds
operand_kinds op left right k = record { left = left_type op left right k; right = right_type op left right k }

abbrev pub joined_to : Operator → Kinds → Next → Evaluated → Evaluated
joined_to operator kinds second first = joined operator.op kinds.left kinds.right operator.at second first

abbrev pub joined_with : Operator → CType → Next → Evaluated → Evaluated
joined_with operator right second first = joined_to operator (operand_kinds operator.op (kind_of first.given) right operator.kind) second first

abbrev pub comparison : OpKind → Bool → Option Comparison
comparison kind exchanged = Some (record { kind = kind; exchanged = exchanged })

abbrev pub comparison_of : Binary → Option Comparison
comparison_of b.Lt = comparison o.Lt false
comparison_of b.Gt = comparison o.Lt true
comparison_of b.Le = comparison o.Le false
comparison_of b.Ge = comparison o.Le true
comparison_of b.Eq = comparison o.Eq false
comparison_of b.Ne = comparison o.Ne false
comparison_of op = None

abbrev pub is_ordering : OpKind → Bool
is_ordering o.Lt = true
is_ordering o.Le = true
is_ordering kind = false

abbrev pub compared_as : Comparison → CType → Operand → Operand → OpTree
compared_as c k x y = defined c.kind (is_signed k && is_ordering c.kind) (width k) (if c.exchanged then y ∷ x ∷ [] else x ∷ y ∷ [])

-- ---- choices

-- a value to which control may not come
pub record Side : Type 0 where
  pub ops : List OpTree
  pub guards : List Guard
  pub operand : Operand

abbrev pub side_of : Operations → List CodeGuard → Operand → Side
side_of ops guards x = record { ops = ops_of ops; guards = guards_of guards; operand = x }

abbrev pub sided : CType → Next → Operand → Bool → List OpTree → List Guard → Side
sided k next test holds ops guards =
    let one = next ops (only_where test holds guards) in
    let x = balanced one.ops one.given k in
    record { ops = x.ops; guards = outside one.guards; operand = x.operand }

-- behind the first value
abbrev pub chosen_other : CType → Next → Operand → Side → Evaluated
chosen_other k second test one =
    let other = sided k second test false one.ops one.guards in
    with_value other.guards k (added other.ops (plain o.Select (width k) (test ∷ one.operand ∷ other.operand ∷ [])))

-- behind the bit of the test
abbrev pub chosen : CType → Next → Next → List Guard → Emitted → Evaluated
chosen k first second guards bit = chosen_other k second bit.operand (sided k first bit.operand true bit.ops guards)
