use Rattle.std.proofs.Common.{◌≡◌, ◌+◌, drop}
use Rattle.c_meaning.specs.Checks.Recursion.{body_of}
use Rattle.c_calls.proofs.recursion.body_number.Given as goal

abbrev pub invariant-loop-i : goal.invariant-loop-i
invariant-loop-i l = body_of (drop l.i l.callers) l.name + l.i ≡ body_of l.callers l.name
