use Rattle.std.proofs.Common.{List, take, map}
use Rattle.std.specs.Prelude.{◌≡◌}
use Rattle.std.specs.List.{enumerate_from}
use Rattle.rtl_logic.specs.Making.{circuit}
use Rattle.datapath.specs.Plans.{Plan}
use Rattle.datapath.specs.Cycles.{Register}
use Rattle.datapath.specs.Control.{is_taken}
use Rattle.datapath.specs.CircuitWires.Carrying.{IsBegun, Tells}
use Rattle.circuit_context.specs.Wanted.Entries.{parameter_entry}
use Rattle.circuit_context.specs.Wanted.Logs.{Logs}
use Rattle.circuit_context.specs.Contexts.{IsContext}
use Rattle.fsm_datapath.proofs.beginnings.write_arguments.Given as goal

abbrev pub invariant-loop-number : goal.invariant-loop-number
invariant-loop-number l = (p : Plan) (names : List Register) → IsContext p names l.of → IsBegun p names (circuit l.logic) → l.variables ≡ p.parameters → Tells p names (circuit l.logic) l.taken is_taken
    → Logs p names (circuit l.logic) (circuit l.logic) l.initial.log.pushes.items l.log.pushes.items (map parameter_entry (enumerate_from 0 (take l.number l.variables)))
