-- When an operation is valid behind those before it.
use Rattle.std.specs.Prelude.{ℕ, ◌+◌, ◌==◌, ◌&&◌, ◌||◌, Bool, true, false, List, [], ◌∷◌, length, take, slice_get, Option, Some, None, is_some, is_none, if◌then◌else◌}
use Rattle.std.specs.List.{list_all}
use Rattle.hls_base.specs.declared.number.ArrayId.{ArrayId}
use Rattle.ir_core.specs.declared.body.Op.{Op}
use Rattle.ir_core.specs.declared.body.OpKind.{OpKind}
use Rattle.ir_core.specs.declared.body.OpKind.TheVariants as o
use Rattle.ir_core.specs.declared.body.Operand.{Operand}
use Rattle.ir_core.specs.declared.body.Out.{Out}
use Rattle.ir_core.specs.declared.cfg.Frame.{Frame}
use Rattle.ir_core.specs.declared.cfg.Memory.{Memory}
use Rattle.dep_graph.specs.Meetings.{is_store}
use Rattle.program_validity.specs.Widths.{is_width}
use Rattle.program_validity.specs.Operands.{is_at, width_of, is_exactly, is_narrower, is_wider, is_operand, is_operand_if, is_subscript}

-- ---- flags

-- C may give the operation no value: it overflows, divides, shifts or names an element
abbrev pub may_be_undefined : OpKind → Bool → Bool
may_be_undefined o.Add signed = signed
may_be_undefined o.Sub signed = signed
may_be_undefined o.Mul signed = signed
may_be_undefined o.Neg signed = signed
may_be_undefined o.Div signed = true
may_be_undefined o.Rem signed = true
may_be_undefined o.Shl signed = true
may_be_undefined o.Shr signed = true
may_be_undefined o.Load signed = true
may_be_undefined o.Store signed = true
may_be_undefined kind signed = false

abbrev pub is_flagged : {S : Type 0} → Op S → Bool
is_flagged op = if may_be_undefined op.kind op.signed then is_some op.flag else is_none op.flag

-- ---- widths

abbrev pub is_width_of : OpKind → ℕ → Bool
is_width_of o.Mul bits = (bits == 32) || (bits == 64)
is_width_of o.Div bits = (bits == 32) || (bits == 64)
is_width_of o.Rem bits = (bits == 32) || (bits == 64)
is_width_of kind bits = is_width bits

-- ---- arguments

abbrev pub is_one : {S : Type 0} → List ℕ → List Out → List (Op S) → ℕ → List Operand → Bool
is_one widths carried before bits (x ∷ []) = is_operand widths carried before bits x
is_one widths carried before bits _ = false

abbrev pub are_two : {S : Type 0} → List ℕ → List Out → List (Op S) → ℕ → List Operand → Bool
are_two widths carried before bits (x ∷ y ∷ []) = is_operand widths carried before bits x && is_operand widths carried before bits y
are_two widths carried before bits _ = false

-- three, of which the first may have another width
abbrev pub are_three : {S : Type 0} → List ℕ → List Out → List (Op S) → ℕ → ℕ → List Operand → Bool
are_three widths carried before first bits (x ∷ y ∷ z ∷ []) =
    is_operand widths carried before first x && (is_operand widths carried before bits y && is_operand widths carried before bits z)
are_three widths carried before first bits _ = false

-- to this width, from this one
abbrev pub converts : OpKind → ℕ → Option ℕ → Bool
converts o.Widen bits width = is_narrower bits width
converts o.Narrow bits width = is_wider bits width
converts kind bits width = is_exactly bits width

-- one that is no constant
abbrev pub is_converted : {S : Type 0} → List ℕ → List Out → List (Op S) → OpKind → ℕ → List Operand → Bool
is_converted widths carried before kind bits (x ∷ []) = converts kind bits (width_of widths before x.value) && is_at carried x.value x.distance
is_converted widths carried before kind bits _ = false

abbrev pub computes : {S : Type 0} → List ℕ → List Out → List (Op S) → OpKind → ℕ → List Operand → Bool
computes widths carried before o.Not bits args = is_one widths carried before bits args
computes widths carried before o.Neg bits args = is_one widths carried before bits args
computes widths carried before o.Copy bits args = is_one widths carried before bits args
computes widths carried before o.Widen bits args = is_converted widths carried before o.Widen bits args
computes widths carried before o.Narrow bits args = is_converted widths carried before o.Narrow bits args
computes widths carried before o.Truth bits args = is_converted widths carried before o.Truth bits args
computes widths carried before o.Select bits args = are_three widths carried before 1 bits args
computes widths carried before (o.Fused pairing) bits args = are_three widths carried before bits bits args
computes widths carried before kind bits args = are_two widths carried before bits args

-- ---- accesses

abbrev pub memory_of : List Memory → Option ArrayId → Option Memory
memory_of memories None = None
memory_of memories (Some array) = slice_get memories array.0

-- one subscript for each dimension
abbrev pub loads : {S : Type 0} → List ℕ → List Out → List (Op S) → Op S → Memory → Bool
loads widths carried before op m = (m.bits == op.bits) && ((length op.args.items == length m.dims.items) && list_all (is_subscript widths carried before) op.args.items)

abbrev pub is_stored : {S : Type 0} → List ℕ → List Out → List (Op S) → ℕ → Option Operand → Bool
is_stored widths carried before bits None = false
is_stored widths carried before bits (Some x) = is_operand widths carried before bits x

-- the stored value behind the subscripts; no table is changed
abbrev pub stores : {S : Type 0} → List ℕ → List Out → List (Op S) → Op S → Memory → Bool
stores widths carried before op m =
    ((m.bits == op.bits) && (is_none m.table && (length op.args.items == length m.dims.items + 1)))
    && (list_all (is_subscript widths carried before) (take (length m.dims.items) op.args.items)
    && is_stored widths carried before op.bits (slice_get op.args.items (length m.dims.items)))

abbrev pub accesses_in : {S : Type 0} → List ℕ → List Out → List (Op S) → Op S → Option Memory → Bool
accesses_in widths carried before op None = false
accesses_in widths carried before op (Some m) = if is_store op.kind then stores widths carried before op m else loads widths carried before op m

abbrev pub accesses : {S : Type 0} → Frame → List Out → List (Op S) → Op S → Bool
accesses f carried before op = accesses_in f.variables.items carried before op (memory_of f.memories.items op.array)

-- ---- operations

-- only accesses name an array
abbrev pub acts : {S : Type 0} → Frame → List Out → List (Op S) → Op S → OpKind → Bool
acts f carried before op o.Load = accesses f carried before op
acts f carried before op o.Store = accesses f carried before op
acts f carried before op kind = is_none op.array && computes f.variables.items carried before kind op.bits op.args.items

-- an operation of a body that carries these outs to its next iteration, behind these operations
abbrev pub is_operation : {S : Type 0} → Frame → List Out → List (Op S) → Op S → Bool
is_operation f carried before op =
    (is_width_of op.kind op.bits && is_flagged op) && (is_operand_if f.variables.items carried before 1 op.guard && acts f carried before op op.kind)
