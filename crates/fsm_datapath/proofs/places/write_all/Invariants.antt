use Rattle.std.proofs.Common.{List, take}
use Rattle.std.specs.List.{flat_map}
use Rattle.rtl_logic.specs.Making.{circuit}
use Rattle.datapath.specs.Plans.{Plan}
use Rattle.datapath.specs.Cycles.{Register}
use Rattle.datapath.specs.CircuitWires.Carrying.{IsBegun}
use Rattle.circuit_context.specs.Wanted.Entries.{held_entries}
use Rattle.circuit_context.specs.Wanted.Logs.{Logs}
use Rattle.circuit_context.specs.Contexts.{IsContext}
use Rattle.circuit_units.specs.Units.{HasAnswers}
use Rattle.circuit_units.specs.Demands.Computed.{AreComputed}
use Rattle.fsm_datapath.proofs.places.write_all.Given as goal

abbrev pub invariant-loop-held : goal.invariant-loop-held
invariant-loop-held l = (p : Plan) (names : List Register) → IsContext p names l.of → IsBegun p names (circuit l.initial.logic)
    → AreComputed p names (circuit l.initial.logic) l.sources.computed.now → HasAnswers p names (circuit l.initial.logic) l.sources.units.now
    → Logs p names (circuit l.initial.logic) (circuit l.logic) l.initial.log.pushes.items l.log.pushes.items (flat_map (held_entries p) (take l.held-index l.all))
