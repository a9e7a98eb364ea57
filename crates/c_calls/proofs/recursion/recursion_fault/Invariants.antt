use Rattle.std.proofs.Common.{◌≡◌, drop}
use Rattle.c_meaning.specs.Checks.Faults.{lesser, least}
use Rattle.c_meaning.specs.Checks.Recursion.{recursion_faults}
use Rattle.c_calls.proofs.recursion.recursion_fault.Given as goal

abbrev pub invariant-loop-caller : goal.invariant-loop-caller
invariant-loop-caller l = lesser l.worst (least (recursion_faults l.callers (drop l.caller-index l.callers))) ≡ least (recursion_faults l.callers l.callers)
