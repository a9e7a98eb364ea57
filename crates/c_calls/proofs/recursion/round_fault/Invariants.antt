use Rattle.std.proofs.Common.{◌≡◌, drop}
use Rattle.c_meaning.specs.Checks.Faults.{lesser, least}
use Rattle.c_meaning.specs.Checks.Recursion.{round_faults}
use Rattle.c_calls.proofs.recursion.round_fault.Given as goal

abbrev pub invariant-loop-call : goal.invariant-loop-call
invariant-loop-call l = lesser l.worst (least (round_faults l.callers l.g (drop l.call-index l.calls))) ≡ least (round_faults l.callers l.g l.calls)
