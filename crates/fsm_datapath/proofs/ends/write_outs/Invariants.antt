use Rattle.std.proofs.Common.{◌≡◌, List, take, map}
use Rattle.std.specs.Prelude.{slice_get, Some}
use Rattle.rtl_logic.specs.Making.{circuit}
use Rattle.clock_ir.specs.ClockRuns.{TimedNode}
use Rattle.datapath.specs.Plans.{Plan}
use Rattle.datapath.specs.Cycles.{Register, Cycle}
use Rattle.datapath.specs.Control.{leaves_as}
use Rattle.datapath.specs.CircuitWires.Carrying.{IsBegun, Tells}
use Rattle.circuit_context.specs.Wanted.Entries.{out_entry}
use Rattle.circuit_context.specs.Wanted.Logs.{Logs}
use Rattle.circuit_context.specs.Contexts.{IsContext}
use Rattle.circuit_units.specs.Units.{HasAnswers}
use Rattle.circuit_units.specs.Demands.Computed.{AreComputed}
use Rattle.fsm_datapath.proofs.ends.write_outs.Given as goal

abbrev pub invariant-loop-out : goal.invariant-loop-out
invariant-loop-out l = (p : Plan) (names : List Register) (n : TimedNode) → IsContext p names l.of → IsBegun p names (circuit l.logic)
    → AreComputed p names (circuit l.logic) l.sources.computed.now → HasAnswers p names (circuit l.logic) l.sources.units.now
    → slice_get p.program.nodes l.leaving.node.0 ≡ Some n → Tells p names (circuit l.logic) l.leaving.when (λ (c : Cycle). leaves_as p c l.leaving.node.0 n)
    → Logs p names (circuit l.logic) (circuit l.logic) l.initial.log.pushes.items l.log.pushes.items (map (out_entry p (l.leaving.node.0, n)) (take l.out-index l.out-items))
