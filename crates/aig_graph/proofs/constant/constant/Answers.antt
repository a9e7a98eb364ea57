use Rattle.std.proofs.Common.{arith}
use Rattle.aig_graph.proofs.Constants.{constant_more, constant_ends}
use Rattle.aig_graph.proofs.constant.constant.Goals as goal

pub loop-i-preserved : goal.loop-i-preserved
loop-i-preserved c = constant_more c.loop-i.word.items _ c.args.bits c.loop-i._i c.loop-i.rest _ c.in_ok-push.ensures.items (omega arith) c.loop-i.invariant

pub returns : goal.returns
returns c = constant_ends _ c.args.bits c.loop-i._i c.loop-i.rest _ (omega arith) c.loop-i.invariant
