use Rattle.std.proofs.Common.{◌≡◌, ◌++◌, drop}
use Rattle.c_meaning.specs.Checks.Recursion.{links}
use Rattle.c_calls.proofs.recursion.links_of.Given as goal

abbrev pub invariant-loop-caller : goal.invariant-loop-caller
invariant-loop-caller l = l.linked.items ++ links l.callers (drop l.caller-index l.callers) ≡ links l.callers l.callers
