use Rattle.std.proofs.Common.{◌≡◌, ◌++◌, drop}
use Rattle.c_meaning.specs.Checks.Recursion.{call_links}
use Rattle.c_calls.proofs.recursion.add_links.Given as goal

abbrev pub invariant-loop-call : goal.invariant-loop-call
invariant-loop-call l = l.linked.items ++ call_links l.callers l.from (drop l.call-index l.calls) ≡ l.initial.linked.items ++ call_links l.callers l.from l.calls
