use Rattle.aig_graph.proofs.Totals.{below_of}
use Rattle.aig_graph.proofs.compare.below.Goals as goal

pub returns : goal.returns
returns c = below_of _ _ c.args.xs.now c.args.ys.now _ _ _ c.in_ok-difference.ensures c.not.ensures.value c.not.ensures.within
