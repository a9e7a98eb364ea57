use Rattle.c_calls.specs.Linked.{HasSources}
use Rattle.c_calls.proofs.recursion.all_sources.Given as goal

abbrev pub invariant-loop-callee : goal.invariant-loop-callee
invariant-loop-callee l = HasSources l.linked l.callee l.rows.items
