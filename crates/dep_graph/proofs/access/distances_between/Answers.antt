use Rattle.std.proofs.Common.{sym, ◌∙◌, arith}
use Rattle.dep_graph.proofs.Lists.{no_more}
use Rattle.dep_graph.proofs.access.distances_between.Goals as goal

pub returns : goal.returns
returns c =
    sym (no_more c.loop-index.distances c.args.from.now c.args.to.now c.loop-index.index (omega (arith, c.min-count.ensures, c.loop-index-test.false))) ∙ c.loop-index.invariant
