use Rattle.std.proofs.Common.{◌≡◌, ◌+◌, drop}
use Rattle.c_meaning.specs.Checks.Recursion.{number_of}
use Rattle.c_calls.proofs.recursion.number.Given as goal

abbrev pub invariant-loop-i : goal.invariant-loop-i
invariant-loop-i l = number_of (drop l.i l.callers) l.name + l.i ≡ number_of l.callers l.name
