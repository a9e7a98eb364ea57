use Rattle.c_calls.proofs.Rounds.{has_more}
use Rattle.c_calls.proofs.recursion.all_sources.Goals as goal

pub loop-callee-preserved : goal.loop-callee-preserved
loop-callee-preserved c =
    rw c.in_ok-push.ensures.items (has_more c.args.linked.now c.loop-callee.callee c.loop-callee.rows.items c.in_ok-sources_of.field-0 c.loop-callee.invariant c.in_ok-sources_of.ensures)
