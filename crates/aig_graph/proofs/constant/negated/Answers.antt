use Rattle.std.proofs.Common.{arith}
use Rattle.aig_graph.proofs.Constants.{negation_more}
use Rattle.aig_graph.proofs.constant.negated.Goals as goal

pub loop-x-preserved : goal.loop-x-preserved
loop-x-preserved c = negation_more c.args.xs.now c.loop-x.x-index _ _ _ c.loop-x.invariant c.in_ok-push.ensures.items (omega arith) c.not.ensures.value c.not.ensures.within
