use Rattle.lowered_shapes.proofs.TreeFlow.Whole.{runs}
use Rattle.lowered_shapes.proofs.tree_flow.conversion_keeps_runs.Goals as goal

pub returns : goal.returns
returns c = runs
