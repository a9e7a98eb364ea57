use Rattle.std.proofs.Common.{length}
use Rattle.dep_graph.proofs.counter.op_sum.Goals as goal

pub returns-clause-near : goal.returns-clause-near
returns-clause-near c = c.plus_constant.ensures.near (length c.args.sums.now) c.in_ok-sum.ensures.near
