use Rattle.std.proofs.Common.{List, Bool}
use Rattle.rtl_core.specs.Netlist.{Netlist}
use Rattle.datapath.specs.Plans.{Plan}
use Rattle.datapath.specs.Cycles.{Register, Cycle}
use Rattle.datapath.specs.CircuitWires.Carrying.{IsBegun, Tells}
use Rattle.circuit_context.specs.Wanted.Logs.{Logs}
use Rattle.circuit_context.specs.Contexts.{IsContext}
use Rattle.circuit_control.specs.Gathered.{moved_entries}
use Rattle.circuit_control.proofs.loops.write_earlier.Given as goal

abbrev pub invariant-loop-before : goal.invariant-loop-before
invariant-loop-before l = (p : Plan) (names : List Register) (d : Netlist) (moves : Cycle → Bool) → IsContext p names l.of → IsBegun p names d → Tells p names d l.moved moves
    → Logs p names d d l.initial.log.pushes.items l.log.pushes.items (moved_entries moves l.before)
