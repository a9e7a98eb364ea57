use Rattle.std.proofs.Common.{◌≡◌, List}
use Rattle.rtl_logic.specs.Making.{circuit}
use Rattle.datapath.specs.Plans.{Plan}
use Rattle.datapath.specs.Cycles.{Register}
use Rattle.circuit_context.specs.declared.wanted.log.Push.{Push}
use Rattle.circuit_context.specs.declared.wanted.role.Target.{Target}
use Rattle.circuit_context.specs.Wanted.Roles.{given, choices_of}
use Rattle.circuit_context.specs.Wanted.Entries.{Entry}
use Rattle.circuit_control.proofs.Driving.{CanDriveAll, PartlyDriven}
use Rattle.circuit_control.proofs.drives.drive_registers.Given as goal

abbrev pub invariant-loop-number : goal.invariant-loop-number
invariant-loop-number l = (p : Plan) (names : List Register) (pushes : List Push) (entries : List Entry) → CanDriveAll p names l.bank.roles.keys (circuit l.initial.logic) pushes entries
    → ((t : Target) → given l.groups t ≡ choices_of t pushes) → PartlyDriven p names l.bank.roles.keys l.number (circuit l.initial.logic) (circuit l.logic)
