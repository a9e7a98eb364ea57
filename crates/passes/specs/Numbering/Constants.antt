-- Operations that are computed: those that C gives a value, on constants alone.
use Rattle.std.specs.Prelude.{ℕ, Bool, true, false, ◌&&◌, [], ◌∷◌, Option, Some, None, slice_get, if◌then◌else◌}
use Rattle.ir_core.specs.declared.body.OpKind.{OpKind}
use Rattle.ir_core.specs.declared.body.OpKind.TheVariants as o
use Rattle.ir_core.specs.declared.body.Operand.{Operand}
use Rattle.ir_core.specs.declared.body.Source.{Source}
use Rattle.ir_core.specs.declared.body.Source.TheVariants as s
use Rattle.ir_core.specs.Value.{value, is_defined}
use Rattle.ir_core.specs.Bodies.{OpTree}

abbrev pub word_of : Source → Option ℕ
word_of (s.Constant word) = Some word
word_of (s.Variable variable) = None
word_of (s.Result op) = None

-- an operand that is not there counts as the constant 0
abbrev pub word_in : Option Operand → Option ℕ
word_in None = Some 0
word_in (Some operand) = word_of operand.value

-- a copy stays, and what a load gives is no value of its operands
abbrev pub is_computed : OpKind → Bool
is_computed o.Copy = false
is_computed o.Load = false
is_computed o.Store = false
is_computed kind = true

abbrev pub computed_on : OpTree → ℕ → Option ℕ → Option ℕ → Option ℕ → Option ℕ
computed_on op from (Some x) (Some y) (Some z) =
    if is_computed op.kind && is_defined op.kind op.signed op.bits (x ∷ y ∷ z ∷ [])
    then Some (value op.kind op.signed op.bits from (x ∷ y ∷ z ∷ [])) else None
computed_on op from x y z = None

-- what the operation is computed to, if it is; `from` is the width of its first operand
abbrev pub computed : OpTree → ℕ → Option ℕ
computed op from = computed_on op from (word_in (slice_get op.args 0)) (word_in (slice_get op.args 1)) (word_in (slice_get op.args 2))
