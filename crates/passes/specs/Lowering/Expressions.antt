-- The operations of expressions: those of the operands from left to right, each with its conversions, and then that of the operator.
use Rattle.std.specs.Prelude.{Bool, true, false, not, List, [], ◌∷◌, Option, Some, None, if◌then◌else◌}
use Rattle.hls_base.specs.declared.place.Place.{Place}
use Rattle.hls_base.specs.declared.number.ArrayId.{ArrayId}
use Rattle.c_token.specs.declared.ctype.CType.{CType}
use Rattle.c_tree.specs.declared.operator.Unary.{Unary}
use Rattle.c_tree.specs.declared.operator.Unary.TheVariants as u
use Rattle.c_tree.specs.declared.operator.Binary.{Binary}
use Rattle.c_tree.specs.declared.operator.Binary.TheVariants as b
use Rattle.c_value.specs.Values.{integer, width, is_signed, promoted, common}
use Rattle.pieces.specs.Trees as tree
use Rattle.pieces.specs.Trees.{PureTree, PureTrees}
use Rattle.pieces.specs.Kind.{kind}
use Rattle.ir_core.specs.declared.body.OpKind.{OpKind}
use Rattle.ir_core.specs.declared.body.OpKind.TheVariants as o
use Rattle.ir_core.specs.declared.body.Operand.{Operand}
use Rattle.ir_core.specs.declared.body.Out.{Out}
use Rattle.ir_core.specs.Bodies.{OpTree}
use Rattle.passes.specs.Lowering.Operations.{Emitted, gives, added, constant, defined, plain, flagged, Given, truth, value, kind_of, valued, tested, assigned, balanced}
use Rattle.passes.specs.Lowering.Outs.{held}
use Rattle.passes.specs.Lowering.Guards.{Guard, only_where, outside, Guarded, guarded}

-- the operations of a block so far, the guards of what comes next, and what an expression gives
pub record Evaluated : Type 0 where
  pub ops : List OpTree
  pub guards : List Guard
  pub given : Given

-- what comes next: it takes operations and guards
abbrev pub Next : Type 0
Next = List OpTree → List Guard → Evaluated

abbrev pub with_value : List Guard → CType → Emitted → Evaluated
with_value guards k x = record { ops = x.ops; guards = guards; given = value x.operand k }

abbrev pub with_truth : List Guard → Emitted → Evaluated
with_truth guards x = record { ops = x.ops; guards = guards; given = truth x.operand }

-- an operation that may be undefined, under all guards
abbrev pub under_guard : CType → (Option Operand → OpTree) → Guarded → Evaluated
under_guard k op g = with_value g.guards k (added g.ops (op g.bit))

-- ---- operators

-- C gives all such operations a value
abbrev pub is_total : OpKind → Bool → Bool
is_total o.And signed = true
is_total o.Or signed = true
is_total o.Xor signed = true
is_total o.Add signed = not signed
is_total o.Sub signed = not signed
is_total o.Mul signed = not signed
is_total o.Neg signed = not signed
is_total op signed = false

-- an operation that computes a value of this type
abbrev pub computed : OpKind → CType → Place → List OpTree → List Guard → List Operand → Evaluated
computed op k at ops guards args =
    if is_total op (is_signed k) then with_value guards k (added ops (plain op (width k) args))
    else under_guard k (flagged op (is_signed k) (width k) args None at) (guarded ops guards)

-- the operation of an operator that computes
abbrev pub operation : Binary → OpKind
operation b.Mul = o.Mul
operation b.Div = o.Div
operation b.Rem = o.Rem
operation b.Add = o.Add
operation b.Sub = o.Sub
operation b.Shl = o.Shl
operation b.Shr = o.Shr
operation b.And = o.And
operation b.Xor = o.Xor
operation b.Or = o.Or
operation b.LogAnd = o.And
operation b.LogOr = o.Or
operation b.Lt = o.Lt
operation b.Gt = o.Lt
operation b.Le = o.Le
operation b.Ge = o.Le
operation b.Eq = o.Eq
operation b.Ne = o.Ne

-- an operator on two operands of this type: comparisons give a bit, `>` and `>=` with their operands exchanged
abbrev pub operated : Binary → CType → Place → List OpTree → List Guard → Operand → Operand → Evaluated
operated b.Lt k at ops guards x y = with_truth guards (added ops (defined o.Lt (is_signed k) (width k) (x ∷ y ∷ [])))
operated b.Gt k at ops guards x y = with_truth guards (added ops (defined o.Lt (is_signed k) (width k) (y ∷ x ∷ [])))
operated b.Le k at ops guards x y = with_truth guards (added ops (defined o.Le (is_signed k) (width k) (x ∷ y ∷ [])))
operated b.Ge k at ops guards x y = with_truth guards (added ops (defined o.Le (is_signed k) (width k) (y ∷ x ∷ [])))
operated b.Eq k at ops guards x y = with_truth guards (added ops (plain o.Eq (width k) (x ∷ y ∷ [])))
operated b.Ne k at ops guards x y = with_truth guards (added ops (plain o.Ne (width k) (x ∷ y ∷ [])))
operated op k at ops guards x y = computed (operation op) k at ops guards (x ∷ y ∷ [])

-- the types to which the operands of an operator of type k are converted; a shift's count has the width of what is shifted
abbrev pub left_type : Binary → CType → CType → CType → CType
left_type b.Lt left right k = common left right
left_type b.Gt left right k = common left right
left_type b.Le left right k = common left right
left_type b.Ge left right k = common left right
left_type b.Eq left right k = common left right
left_type b.Ne left right k = common left right
left_type op left right k = k

abbrev pub right_type : Binary → CType → CType → CType → CType
right_type b.Shl left right k = integer (is_signed (promoted right)) (width k)
right_type b.Shr left right k = integer (is_signed (promoted right)) (width k)
right_type op left right k = left_type op left right k

-- `&&` where `both`, else `||`, behind its first operand: the second one is needed only where the first one is `both`
unfoldable pub junction : Bool → Next → Evaluated → Evaluated
junction both second first =
    let x = tested first.ops first.given in
    let other = second x.ops (only_where x.operand both first.guards) in
    let y = tested other.ops other.given in
    with_truth (outside other.guards) (added y.ops (plain (if both then o.And else o.Or) 1 (x.operand ∷ y.operand ∷ [])))

-- operands that are converted to these types
unfoldable pub joined : Binary → CType → CType → Place → Next → Evaluated → Evaluated
joined op to to_right at second first =
    let x = balanced first.ops first.given to in
    let other = second x.ops first.guards in
    let y = balanced other.ops other.given to_right in
    operated op to at y.ops other.guards x.operand y.operand

-- a binary operator of type k behind its first operand, where the second one has the type `right`
abbrev pub binary : Binary → CType → CType → Place → Next → Evaluated → Evaluated
binary b.LogAnd right k at second first = junction true second first
binary b.LogOr right k at second first = junction false second first
binary op right k at second first = joined op (left_type op (kind_of first.given) right k) (right_type op (kind_of first.given) right k) at second first

abbrev pub unary_of : Unary → CType → Place → List Guard → Emitted → Evaluated
unary_of u.Minus k at guards x = computed o.Neg k at x.ops guards (x.operand ∷ [])
unary_of u.Not k at guards x = with_value guards k (added x.ops (plain o.Not (width k) (x.operand ∷ [])))
unary_of op k at guards x = with_value guards k x

abbrev pub negated : List Guard → Emitted → Evaluated
negated guards x = with_truth guards (added x.ops (plain o.Not 1 (x.operand ∷ [])))

abbrev pub unary : Unary → CType → Place → Evaluated → Evaluated
unary u.LogNot k at arg = negated arg.guards (tested arg.ops arg.given)
unary op k at arg = unary_of op k at arg.guards (balanced arg.ops arg.given k)

-- control comes to one of two values of type k
unfoldable pub choice : CType → Next → Next → Evaluated → Evaluated
choice k first second test =
    let bit = tested test.ops test.given in
    let one = first bit.ops (only_where bit.operand true test.guards) in
    let x = balanced one.ops one.given k in
    let other = second x.ops (only_where bit.operand false (outside one.guards)) in
    let y = balanced other.ops other.given k in
    with_value (outside other.guards) k (added y.ops (plain o.Select (width k) (bit.operand ∷ x.operand ∷ y.operand ∷ [])))

abbrev pub cast_to : CType → Evaluated → Evaluated
cast_to to arg = with_value arg.guards to (assigned arg.ops arg.given to)

-- ---- subscripts, each at its own width

pub record Subscripts : Type 0 where
  pub ops : List OpTree
  pub guards : List Guard
  pub operands : List Operand

unfoldable pub subscript : (List OpTree → List Guard → Subscripts) → Evaluated → Subscripts
subscript rest first =
    let x = valued first.ops first.given in
    let others = rest x.ops first.guards in
    record others { operands = x.operand ∷ others.operands }

abbrev pub loaded : ArrayId → CType → Place → Subscripts → Evaluated
loaded array k at s = under_guard k (flagged o.Load false (width k) s.operands (Some array) at) (guarded s.ops s.guards)

-- ---- expressions

-- in a block with these outs, behind these operations and under these guards
abbrev mutual
  pub emitted : List Out → PureTree → List OpTree → List Guard → Evaluated
  emitted outs (tree.number word k) ops guards = with_value guards k (gives ops (constant word))
  emitted outs (tree.variable name k) ops guards = with_value guards k (gives ops (held outs name))
  emitted outs (tree.element array subscripts k at) ops guards = loaded array k at (emitted_all outs subscripts ops guards)
  emitted outs (tree.unary op arg k at) ops guards = unary op k at (emitted outs arg ops guards)
  emitted outs (tree.binary op left right k at) ops guards = binary op (kind right) k at (λ ops1 guards1. emitted outs right ops1 guards1) (emitted outs left ops guards)
  emitted outs (tree.choice test left right k) ops guards =
      choice k (λ ops1 guards1. emitted outs left ops1 guards1) (λ ops1 guards1. emitted outs right ops1 guards1) (emitted outs test ops guards)
  emitted outs (tree.cast to arg) ops guards = cast_to to (emitted outs arg ops guards)

  pub emitted_all : List Out → PureTrees → List OpTree → List Guard → Subscripts
  emitted_all outs tree.none ops guards = record { ops = ops; guards = guards; operands = [] }
  emitted_all outs (tree.more first rest) ops guards = subscript (λ ops1 guards1. emitted_all outs rest ops1 guards1) (emitted outs first ops guards)
