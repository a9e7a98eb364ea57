-- What is judged of the times of a program, one thing after another.
use Rattle.std.specs.Prelude.{ℕ, zero, suc, ◌+◌, ◌*◌, ◌^◌, ◌==◌, nat_lt, nat_le, ℤ, pos, negsuc, Bool, true, false, not, ◌&&◌, ◌||◌, if◌then◌else◌, List, [], ◌∷◌, Option, Some, None, option_to_list, slice_get, min}
use Rattle.std.specs.List.{list_all}
use Rattle.hls_base.specs.declared.number.ArrayId.{ArrayId}
use Rattle.hls_base.specs.declared.number.OpId.{OpId}
use Rattle.ir_core.specs.declared.body.Body.{Body}
use Rattle.ir_core.specs.declared.body.Op.{Op}
use Rattle.ir_core.specs.declared.body.Operand.{Operand}
use Rattle.ir_core.specs.declared.cfg.Memory.{Memory}
use Rattle.ir_core.specs.declared.timing.UnitClass.{UnitClass}
use Rattle.ir_core.specs.declared.timing.UnitClass.TheVariants as u
use Rattle.ir_core.specs.Timing.{latency, occupancy, unit_class}
use Rattle.ir_core.specs.declared.timed.Timed.{Timed}
use Rattle.dep_graph.specs.declared.access.Meeting.{Meeting}
use Rattle.dep_graph.specs.declared.access.Meeting.TheVariants as m
use Rattle.dep_graph.specs.Offsets.{sums_of}
use Rattle.dep_graph.specs.Meetings.{is_store, subscripts_of, distances_between}
use Rattle.dep_graph.specs.Dependences.{maker_of, test_maker}
use Rattle.program_validity.specs.Untimed.{untimed_op, untimed_body}

-- Whether an operation that starts at `later`, so many iterations further on, comes so many cycles behind one that starts at `start`. In a block, which has no interval, only one iteration counts.
abbrev pub in_time : Option ℕ → ℕ → ℕ → ℕ → ℕ → Bool
in_time None start later cycles distance = nat_lt 0 distance || nat_le (start + cycles) later
in_time (Some interval) start later cycles distance = nat_le (start + cycles) (later + interval * distance)

abbrev pub op_at : List (Op Timed) → Option OpId → Option (Op Timed)
op_at ops None = None
op_at ops (Some op) = slice_get ops op.0

-- ---- operands

-- the value of an operation is there; where there is no operation, nothing is waited for
abbrev pub made_in_time : Option ℕ → Option (Op Timed) → ℕ → ℕ → Bool
made_in_time interval None later distance = true
made_in_time interval (Some op) later distance = in_time interval op.stamp.start later (latency op.kind op.bits) distance

abbrev pub operand_in_time : Option ℕ → Body Timed → ℕ → Operand → Bool
operand_in_time interval b later x = made_in_time interval (op_at b.ops.items (maker_of b.outs.items x)) later x.distance

-- the arguments of an operation and its guard
abbrev pub data_in_time : Option ℕ → Body Timed → Op Timed → Bool
data_in_time interval b op = list_all (operand_in_time interval b op.stamp.start) op.args.items && list_all (operand_in_time interval b op.stamp.start) (option_to_list op.guard)

-- a store waits for the test
abbrev pub test_in_time : Option ℕ → Body Timed → Op Timed → Bool
test_in_time interval b op = if is_store op.kind then made_in_time interval (op_at b.ops.items (test_maker b.test)) op.stamp.start 0 else true

-- ---- accesses

-- a word is there one cycle after its store
abbrev pub gap : Op Timed → ℕ
gap op = if is_store op.kind then 1 else 0

abbrev pub near_in_time : Option ℕ → Op Timed → Op Timed → Bool → ℤ → Bool
near_in_time interval from to before (pos zero) = not before || in_time interval from.stamp.start to.stamp.start (gap from) 0
near_in_time interval from to before (pos (suc d)) = in_time interval from.stamp.start to.stamp.start (gap from) (min (suc d) 65536)
near_in_time interval from to before (negsuc d) = true

-- The second access waits for the first one wherever it may meet it: in one iteration if the first comes before, and in later iterations.
abbrev pub meeting_in_time : Option ℕ → Op Timed → Op Timed → Bool → Meeting → Bool
meeting_in_time interval from to before m.Never = true
meeting_in_time interval from to before (m.At distance) = near_in_time interval from to before distance
meeting_in_time interval from to before m.Always =
    (not before || in_time interval from.stamp.start to.stamp.start (gap from) 0) && in_time interval from.stamp.start to.stamp.start (gap from) 1

abbrev pub distances : Body Timed → Op Timed → Op Timed → Meeting
distances b from to =
    distances_between (subscripts_of (untimed_body b) (sums_of (untimed_body b)) (untimed_op from)) (subscripts_of (untimed_body b) (sums_of (untimed_body b)) (untimed_op to))

abbrev pub same_array : Option ArrayId → Option ArrayId → Bool
same_array None y = false
same_array (Some x) None = false
same_array (Some x) (Some y) = x.0 == y.0

-- two accesses of one array, of which the first comes before, wait for each other if one of them is a store
abbrev pub accesses_in_time : Option ℕ → Body Timed → Op Timed → Op Timed → Bool
accesses_in_time interval b one other =
    if same_array one.array other.array && (is_store one.kind || is_store other.kind)
    then meeting_in_time interval one other true (distances b one other) && meeting_in_time interval other one false (distances b other one)
    else true

-- ---- units

abbrev pub class_of : List Memory → Op Timed → Option UnitClass
class_of memories op = unit_class op.kind op.bits op.array memories

abbrev pub one_class : UnitClass → UnitClass → Bool
one_class (u.Multiplier x) (u.Multiplier y) = x == y
one_class (u.Multiplier x) (u.Divider y) = false
one_class (u.Multiplier x) (u.Port y) = false
one_class (u.Divider x) (u.Multiplier y) = false
one_class (u.Divider x) (u.Divider y) = x == y
one_class (u.Divider x) (u.Port y) = false
one_class (u.Port x) (u.Multiplier y) = false
one_class (u.Port x) (u.Divider y) = false
one_class (u.Port x) (u.Port y) = x.0 == y.0

abbrev pub same_class : Option UnitClass → Option UnitClass → Bool
same_class None y = false
same_class (Some x) None = false
same_class (Some x) (Some y) = one_class x y

abbrev pub held : Op Timed → ℕ
held op = occupancy op.kind op.bits

-- a unit is free again when the second operation starts, and when the first one of the next iteration does
abbrev pub take_turns : Option ℕ → Op Timed → Op Timed → Bool
take_turns interval first second =
    in_time interval first.stamp.start second.stamp.start (held first) 0 && in_time interval second.stamp.start first.stamp.start (held second) 1

abbrev pub units_in_time : Option ℕ → List Memory → Op Timed → Op Timed → Bool
units_in_time interval memories one other =
    if same_class (class_of memories one) (class_of memories other) && one.stamp.bound == other.stamp.bound
    then (if nat_le one.stamp.start other.stamp.start then take_turns interval one other else take_turns interval other one)
    else true

-- a unit is free again for the same operation of the next iteration
abbrev pub free_again : Option ℕ → Option UnitClass → ℕ → Bool
free_again None class cycles = true
free_again (Some interval) None cycles = true
free_again (Some interval) (Some class) cycles = nat_le cycles interval

-- ---- bodies

abbrev pub is_early : Op Timed → Bool
is_early op = nat_lt op.stamp.start (2 ^ 32)

abbrev pub op_in_time : Option ℕ → List Memory → Body Timed → Op Timed → Bool
op_in_time interval memories b op =
    is_early op && (data_in_time interval b op && (test_in_time interval b op && free_again interval (class_of memories op) (held op)))

abbrev pub pair_in_time : Option ℕ → List Memory → Body Timed → Op Timed → Op Timed → Bool
pair_in_time interval memories b one other = accesses_in_time interval b one other && units_in_time interval memories one other

-- each of these operations, and each with those behind it
abbrev pub ops_in_time : Option ℕ → List Memory → Body Timed → List (Op Timed) → Bool
ops_in_time interval memories b [] = true
ops_in_time interval memories b (op ∷ ops) =
    (op_in_time interval memories b op && list_all (pair_in_time interval memories b op) ops) && ops_in_time interval memories b ops

abbrev pub body_in_time : Option ℕ → List Memory → Body Timed → Bool
body_in_time interval memories b = ops_in_time interval memories b b.ops.items
