use Rattle.lowered_shapes.proofs.TreeFlow.Whole.{one}
use Rattle.lowered_shapes.proofs.tree_flow.straight_becomes_one.Goals as goal

pub returns : goal.returns
returns c = one
