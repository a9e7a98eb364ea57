use Rattle.std.proofs.Common.{◌≡◌, List, take}
use Rattle.std.specs.Prelude.{flat_map}
use Rattle.rtl_logic.specs.Making.{circuit}
use Rattle.datapath.specs.Plans.{Plan, numbered}
use Rattle.datapath.specs.Cycles.{Register}
use Rattle.datapath.specs.CircuitWires.Carrying.{IsBegun}
use Rattle.circuit_context.specs.declared.wanted.log.Push.{Push}
use Rattle.circuit_context.specs.declared.wanted.role.Target.{Target}
use Rattle.circuit_context.specs.Wanted.Roles.{given, choices_of}
use Rattle.circuit_context.specs.Wanted.Entries.{moves_of, state_entries}
use Rattle.circuit_context.specs.Wanted.Logs.{ArePushes, Logs}
use Rattle.circuit_context.specs.Contexts.{IsContext}
use Rattle.circuit_control.proofs.control.write_states.Given as goal

abbrev pub invariant-loop-number : goal.invariant-loop-number
invariant-loop-number l = (p : Plan) (names : List Register) (pushes : List Push) → IsContext p names l.of → IsBegun p names (circuit l.initial.logic) → ArePushes p names (circuit l.initial.logic) pushes (moves_of p)
    → ((t : Target) → given l.groups t ≡ choices_of t pushes)
    → Logs p names (circuit l.initial.logic) (circuit l.logic) l.initial.log.pushes.items l.log.pushes.items (flat_map (state_entries p) (take l.number (numbered p)))
