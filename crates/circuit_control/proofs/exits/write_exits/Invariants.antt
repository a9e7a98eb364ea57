use Rattle.std.proofs.Common.{List, take}
use Rattle.std.specs.Prelude.{flat_map}
use Rattle.rtl_logic.specs.Making.{circuit}
use Rattle.datapath.specs.Plans.{Plan, numbered}
use Rattle.datapath.specs.Cycles.{Register}
use Rattle.datapath.specs.CircuitWires.Carrying.{IsBegun}
use Rattle.circuit_context.specs.Wanted.Entries.{exit_entries}
use Rattle.circuit_context.specs.Wanted.Logs.{Logs}
use Rattle.circuit_context.specs.Contexts.{IsContext}
use Rattle.circuit_control.proofs.exits.write_exits.Given as goal

abbrev pub invariant-loop-number : goal.invariant-loop-number
invariant-loop-number l = (p : Plan) (names : List Register) → IsContext p names l.of → IsBegun p names (circuit l.initial.logic)
    → Logs p names (circuit l.initial.logic) (circuit l.logic) l.initial.log.pushes.items l.log.pushes.items (flat_map (exit_entries p) (take l.number (numbered p)))
