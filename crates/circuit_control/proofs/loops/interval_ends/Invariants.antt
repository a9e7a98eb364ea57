use Rattle.std.proofs.Common.{List, Some, take}
use Rattle.std.specs.Prelude.{ℕ, ◌&&◌, ◌-◌}
use Rattle.std.specs.List.{list_any}
use Rattle.rtl_logic.specs.Making.{circuit}
use Rattle.clock_ir.specs.ClockRuns.{TimedNode}
use Rattle.datapath.specs.Plans.{Plan, numbered, body_at}
use Rattle.datapath.specs.Cycles.{Register, Cycle}
use Rattle.datapath.specs.Reading.{at}
use Rattle.datapath.specs.Control.{is_loop}
use Rattle.datapath.specs.CircuitWires.Carrying.{IsBegun}
use Rattle.circuit_context.specs.Contexts.{IsContext}
use Rattle.circuit_control.specs.Gathered.{MakesTogether}
use Rattle.circuit_control.proofs.loops.interval_ends.Given as goal

abbrev pub invariant-loop-number : goal.invariant-loop-number
invariant-loop-number l = (p : Plan) (names : List Register) → IsContext p names l.of → IsBegun p names (circuit l.initial.logic)
    → MakesTogether p names (circuit l.initial.logic) (circuit l.logic) l.all.items
    (λ (c : Cycle). list_any (λ (n : ℕ × TimedNode). is_loop (Some n.1) && at p c n.0 ((body_at p n.0).interval - 1)) (take l.number (numbered p)))
