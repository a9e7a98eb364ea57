-- At which distances two accesses of an array may meet.
use Rattle.std.specs.Prelude.{ℕ, suc, ◌-◌, ◌==◌, ℤ, pos, ◌-ℤ◌, int_div, int_rem, Bool, true, false, if◌then◌else◌, List, [], ◌∷◌, ◌++◌, map, take, length, Option, Some, None}
use Rattle.std.specs.Ordering.{int_eq}
use Rattle.hls_base.specs.declared.number.ArrayId.{ArrayId}
use Rattle.ir_core.specs.declared.body.Body.{Body}
use Rattle.ir_core.specs.declared.body.Op.{Op}
use Rattle.ir_core.specs.declared.body.OpKind.{OpKind}
use Rattle.ir_core.specs.declared.body.OpKind.TheVariants as o
use Rattle.ir_core.specs.declared.body.Operand.{Operand}
use Rattle.ir_core.specs.declared.body.Source.{Source}
use Rattle.ir_core.specs.declared.body.Source.TheVariants as s
use Rattle.ir_core.specs.declared.stamp.Untimed.{Untimed}
use Rattle.dep_graph.specs.declared.counter.Offset.{Offset}
use Rattle.dep_graph.specs.declared.counter.Sum.{Sum}
use Rattle.dep_graph.specs.declared.access.Access.{Access}
use Rattle.dep_graph.specs.declared.access.Subscript.{Subscript}
use Rattle.dep_graph.specs.declared.access.Subscript.TheVariants as u
use Rattle.dep_graph.specs.declared.access.Meeting.{Meeting}
use Rattle.dep_graph.specs.declared.access.Meeting.TheVariants as m
use Rattle.dep_graph.specs.Offsets.{offset_of}

abbrev pub counted_or_unknown : Option Offset → Subscript
counted_or_unknown None = u.Unknown
counted_or_unknown (Some offset) = u.Counted offset

abbrev pub subscript_by : Source → Option Offset → Subscript
subscript_by (s.Constant word) offset = u.Constant word
subscript_by (s.Variable variable) offset = counted_or_unknown offset
subscript_by (s.Result op) offset = counted_or_unknown offset

-- what is known of a subscript
abbrev pub subscript_of : Body Untimed → List (Option Sum) → Option Operand → Operand → Subscript
subscript_of body sums guard operand = subscript_by operand.value (offset_of body sums operand guard)

abbrev pub is_store : OpKind → Bool
is_store o.Store = true
is_store _ = false

-- all arguments but the stored value are subscripts
abbrev pub subscript_count : OpKind → ℕ → ℕ
subscript_count o.Store n = n - 1
subscript_count _ n = n

abbrev pub subscripts_of : Body Untimed → List (Option Sum) → Op Untimed → List Subscript
subscripts_of body sums op =
    map (subscript_of body sums op.guard) (take (subscript_count op.kind (length op.args.items)) op.args.items)

-- an access, with the number of its operation
pub record Reach : Type 0 where
  pub op : ℕ
  pub array : ArrayId
  pub is_store : Bool
  pub subscripts : List Subscript

abbrev pub reach : Access → Reach
reach access = record { op = access.op; array = access.array; is_store = access.is_store; subscripts = access.subscripts.items }

abbrev pub reach_of : Body Untimed → List (Option Sum) → ℕ → Op Untimed → Option ArrayId → List Reach
reach_of body sums k op None = []
reach_of body sums k op (Some array) =
    record { op = k; array = array; is_store = is_store op.kind; subscripts = subscripts_of body sums op } ∷ []

-- the accesses among these operations, of which the first has the number k
abbrev pub reaches_from : Body Untimed → List (Option Sum) → ℕ → List (Op Untimed) → List Reach
reaches_from body sums k [] = []
reaches_from body sums k (op ∷ ops) = reach_of body sums k op op.array ++ reaches_from body sums (suc k) ops

-- a counter that grows by the step has gone so far after one distance, or after none
abbrev pub distance_of : ℤ → ℤ → Meeting
distance_of step gap = if int_eq (int_rem gap step) (pos 0) then m.At (int_div gap step) else m.Never

-- offsets of one counter
abbrev pub offsets_meet : Offset → Offset → Meeting
offsets_meet from to =
    if from.counter.0 == to.counter.0 then distance_of from.step (from.constant -ℤ to.constant) else m.Always

-- in one dimension
abbrev pub subscripts_meet : Subscript → Subscript → Meeting
subscripts_meet (u.Constant x) (u.Constant y) = if x == y then m.Always else m.Never
subscripts_meet (u.Constant x) (u.Counted y) = m.Always
subscripts_meet (u.Constant x) u.Unknown = m.Always
subscripts_meet (u.Counted x) (u.Constant y) = m.Always
subscripts_meet (u.Counted x) (u.Counted y) = offsets_meet x y
subscripts_meet (u.Counted x) u.Unknown = m.Always
subscripts_meet u.Unknown y = m.Always

-- the distances that two dimensions leave
abbrev pub both : Meeting → Meeting → Meeting
both m.Always y = y
both m.Never m.Always = m.Never
both m.Never m.Never = m.Never
both m.Never (m.At e) = m.Never
both (m.At d) m.Always = m.At d
both (m.At d) m.Never = m.Never
both (m.At d) (m.At e) = if int_eq d e then m.At d else m.Never

-- the distances that these and all further dimensions leave
abbrev pub distances_from : Meeting → List Subscript → List Subscript → Meeting
distances_from so_far [] ys = so_far
distances_from so_far (x ∷ xs) [] = so_far
distances_from so_far (x ∷ xs) (y ∷ ys) = distances_from (both so_far (subscripts_meet x y)) xs ys

abbrev pub distances_between : List Subscript → List Subscript → Meeting
distances_between xs ys = distances_from m.Always xs ys
