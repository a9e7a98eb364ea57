use Rattle.std.proofs.Common.{List, take}
use Rattle.rtl_logic.specs.Making.{circuit}
use Rattle.clock_ir.specs.ClockRuns.{TimedNode}
use Rattle.datapath.specs.Plans.{Plan}
use Rattle.datapath.specs.Cycles.{Register, Cycle}
use Rattle.datapath.specs.Control.{leaves_as}
use Rattle.datapath.specs.CircuitWires.Carrying.{IsBegun, Tells}
use Rattle.circuit_context.specs.Wanted.Logs.{Logs}
use Rattle.circuit_context.specs.Contexts.{IsContext}
use Rattle.fsm_datapath.specs.Steps.{exclusive_cases, TellCases}
use Rattle.fsm_datapath.proofs.ways.write_exclusive.Given as goal

abbrev pub invariant-loop-case : goal.invariant-loop-case
invariant-loop-case l = (p : Plan) (names : List Register) (n : TimedNode) → IsContext p names l.of → IsBegun p names (circuit l.initial.logic)
    → Tells p names (circuit l.initial.logic) l.leaving.when (λ (c : Cycle). leaves_as p c l.leaving.node.0 n)
    → Logs p names (circuit l.initial.logic) (circuit l.logic) l.initial.log.pushes.items l.log.pushes.items (exclusive_cases p (l.leaving.node.0, n) (take l.case-index l.cases))
    × TellCases p names (circuit l.logic) l.leaving.node.0 (take l.case-index l.cases) l.tests.items
