use Rattle.std.proofs.Common.{List, take, map}
use Rattle.rtl_logic.specs.Making.{circuit}
use Rattle.datapath.specs.Plans.{Plan}
use Rattle.datapath.specs.Cycles.{Register}
use Rattle.datapath.specs.CircuitWires.Carrying.{IsBegun}
use Rattle.circuit_context.specs.Wanted.Entries.{kept_entry}
use Rattle.circuit_context.specs.Wanted.Logs.{Logs}
use Rattle.circuit_context.specs.Contexts.{IsContext}
use Rattle.fsm_datapath.proofs.beginnings.write_kept.Given as goal

abbrev pub invariant-loop-kept : goal.invariant-loop-kept
invariant-loop-kept l = (p : Plan) (names : List Register) → IsContext p names l.of → IsBegun p names (circuit l.logic)
    → Logs p names (circuit l.logic) (circuit l.logic) l.initial.log.pushes.items l.log.pushes.items (map kept_entry (take l.kept-index l.all))
