-- Operations that make the same of the same operands.
use Rattle.std.specs.Prelude.{ℕ, ◌==◌, Bool, ◌&&◌, List, slice_get}
use Rattle.std.specs.Bool.{beq}
use Rattle.std.specs.Option.{option_eq}
use Rattle.ir_core.specs.declared.body.OpKind.{OpKind}
use Rattle.ir_core.specs.declared.body.Operand.{Operand}
use Rattle.ir_core.specs.contracts.body.OpKindPartialEq.TheImpl as kind_impl
use Rattle.ir_core.specs.contracts.body.OperandPartialEq.TheImpl as operand_impl
use Rattle.ir_core.specs.Bodies.{OpTree}

abbrev pub kind_eq : OpKind → OpKind → Bool
kind_eq = kind_impl.eq-value.it

abbrev pub operand_eq : Operand → Operand → Bool
operand_eq = operand_impl.eq-value.it

abbrev pub has_same : ℕ → List Operand → List Operand → Bool
has_same i xs ys = option_eq operand_eq (slice_get xs i) (slice_get ys i)

-- Those other than loads and stores have at most three operands.
abbrev pub is_equal : OpTree → OpTree → Bool
is_equal x y =
    kind_eq x.kind y.kind && (beq x.signed y.signed && (x.bits == y.bits
    && (has_same 0 x.args y.args && (has_same 1 x.args y.args && has_same 2 x.args y.args))))
