-- The latencies of all rules of a loop, from its body alone.
use Rattle.std.specs.Prelude.{ℕ, ◌+◌, List, Option, Some, None}
use Rattle.std.specs.List.{sum_by}
use Rattle.ir_core.specs.declared.body.Body.{Body}
use Rattle.ir_core.specs.declared.body.Op.{Op}
use Rattle.ir_core.specs.declared.cfg.Memory.{Memory}
use Rattle.ir_core.specs.declared.stamp.Untimed.{Untimed}
use Rattle.ir_core.specs.declared.timing.UnitClass.{UnitClass}
use Rattle.ir_core.specs.Timing.{unit_class, occupancy}
use Rattle.dep_graph.specs.Dependences.{edges_of}
use Rattle.modulo_loop.specs.Rules.{known_first, known_rules, store_rules}
use Rattle.dep_graph.specs.Dependences.{test_maker}
use Rattle.modulo_loop.specs.Lowest.{total_latency}

-- a time, where there is a class of units to be shared
abbrev pub if_shared : Option UnitClass → ℕ → ℕ
if_shared None time = 0
if_shared (Some class) time = time

-- how long an operation holds a unit that it shares
abbrev pub holds : List Memory → Op Untimed → ℕ
holds memories op = if_shared (unit_class op.kind op.bits op.array memories) (occupancy op.kind op.bits)

-- the latencies of the edges, the times for which operations hold units, and the latency of the test, for the next iteration and for each store
abbrev pub all_latencies : List Memory → Body Untimed → ℕ
all_latencies memories body =
    total_latency (edges_of body) + (sum_by (holds memories) body.ops.items
    + (total_latency (known_rules body.ops.items (known_first body.outs.items body.test)) + total_latency (store_rules body.ops.items (test_maker body.test))))
