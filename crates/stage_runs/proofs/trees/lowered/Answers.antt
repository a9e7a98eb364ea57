use Rattle.stage_runs.proofs.Lowered.{lowered_is}
use Rattle.stage_runs.proofs.trees.lowered.Goals as goal

pub returns : goal.returns
returns c = lowered_is c.args.expanded.now c.args.plain c.in_ok-tree.tree c.in_ok-tree.ensures.frame c.in_ok-tree.ensures.returned c.in_ok-tree.ensures.blocks
