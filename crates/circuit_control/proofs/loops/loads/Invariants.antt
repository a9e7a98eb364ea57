use Rattle.std.proofs.Common.{List, Some, take}
use Rattle.std.specs.Prelude.{ℕ, ◌&&◌}
use Rattle.std.specs.List.{list_any}
use Rattle.rtl_core.specs.Netlist.{Netlist}
use Rattle.clock_ir.specs.ClockRuns.{TimedNode}
use Rattle.datapath.specs.Plans.{Plan, numbered}
use Rattle.datapath.specs.Cycles.{Register, Load, Cycle, holds}
use Rattle.datapath.specs.Control.{is_loop}
use Rattle.datapath.specs.CircuitWires.Carrying.{IsBegun}
use Rattle.circuit_context.specs.Contexts.{IsContext}
use Rattle.circuit_control.specs.Gathered.{TellTogether}
use Rattle.circuit_control.proofs.loops.loads.Given as goal

abbrev pub invariant-loop-number : goal.invariant-loop-number
invariant-loop-number l = (p : Plan) (names : List Register) (d : Netlist) → IsContext p names l.of → IsBegun p names d
    → TellTogether p names d l.all.items (λ (c : Cycle). list_any (λ (n : ℕ × TimedNode). is_loop (Some n.1) && holds c (Load n.0)) (take l.number (numbered p)))
