-- Operations, guards and what expressions give, without where they lie in memory.
use Rattle.std.specs.Prelude.{ℕ, false, nat_lt, List, [], ◌∷◌, map, Option, if◌then◌else◌}
use Rattle.hls_base.specs.declared.place.Place.{Place}
use Rattle.hls_base.specs.declared.number.ArrayId.{ArrayId}
use Rattle.c_token.specs.declared.ctype.CType.{CType}
use Rattle.c_token.specs.declared.ctype.CType.TheVariants as type
use Rattle.c_value.specs.Values.{width, is_signed}
use Rattle.ir_core.specs.declared.body.OpKind.{OpKind}
use Rattle.ir_core.specs.declared.body.OpKind.TheVariants as op
use Rattle.ir_core.specs.declared.body.Operand.{Operand}
use Rattle.ir_core.specs.Bodies.{OpTree, op_of}
use Rattle.passes.specs.Lowering.Operations as o
use Rattle.passes.specs.Lowering.Operations.{Emitted, defined, flagged}
use Rattle.passes.specs.Lowering.Guards as g
use Rattle.passes.specs.Lowering.Guards.{Guarded}
use Rattle.passes.specs.Lowering.Expressions.{Evaluated, Subscripts}
use Rattle.block_draft.specs.declared.operations.Form.{Form}
use Rattle.block_draft.specs.declared.operations.Given.{Given}
use Rattle.block_draft.specs.declared.operations.Given.TheVariants as given
use Rattle.block_draft.specs.declared.operations.Operations.{Operations}
use Rattle.block_draft.specs.declared.guards.Guard.{Guard}

abbrev pub ops_of : Operations → List OpTree
ops_of ops = map op_of ops.items.items

-- behind operations, with the operand that is wanted
abbrev pub made : Operations → Operand → Emitted
made ops x = record { ops = ops_of ops; operand = x }

-- ---- forms

abbrev pub plain_form : OpKind → ℕ → Form
plain_form kind bits = record { kind = kind; signed = false; bits = bits }

-- the operation between types of different widths
abbrev pub conversion_form : CType → CType → Form
conversion_form from type.Bool = plain_form op.Truth (width from)
conversion_form from (type.Int signed bits) =
    if nat_lt (width from) (width (type.Int signed bits)) then record { kind = op.Widen; signed = is_signed from; bits = width (type.Int signed bits) }
    else plain_form op.Narrow (width (type.Int signed bits))

abbrev pub defined_as : Form → List Operand → OpTree
defined_as form args = defined form.kind form.signed form.bits args

abbrev pub flagged_as : Form → List Operand → Option ArrayId → Place → Option Operand → OpTree
flagged_as form args array at guard = flagged form.kind form.signed form.bits args array at guard

-- ---- what expressions give

abbrev pub given_of : Given → o.Given
given_of (given.Truth bit) = o.truth bit
given_of (given.Value word kind) = o.value word kind

-- ---- guards

abbrev pub guard_of : Guard → g.Guard
guard_of guard = record { test = guard.test; holds = guard.holds; made = guard.made }

-- guards within others, the innermost first
abbrev pub guards_within : List g.Guard → List Guard → List g.Guard
guards_within around [] = around
guards_within around (guard ∷ guards) = guards_within (guard_of guard ∷ around) guards

abbrev pub guards_of : List Guard → List g.Guard
guards_of guards = guards_within [] guards

abbrev pub guarded_of : Operations → List Guard → Option Operand → Guarded
guarded_of ops guards bit = record { ops = ops_of ops; guards = guards_of guards; bit = bit }

-- ---- expressions

abbrev pub evaluated_of : Operations → List Guard → Given → Evaluated
evaluated_of ops guards x = record { ops = ops_of ops; guards = guards_of guards; given = given_of x }

abbrev pub subscripts_of : Operations → List Guard → List Operand → Subscripts
subscripts_of ops guards xs = record { ops = ops_of ops; guards = guards_of guards; operands = xs }
