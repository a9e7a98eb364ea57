use Rattle.aig_graph.proofs.Totals.{total_of}
use Rattle.aig_graph.proofs.sum.add.Goals as goal

pub returns : goal.returns
returns c = total_of _ _ c.args.xs.now c.args.ys.now _ _ c.requires.same c.in_ok-total.ensures
