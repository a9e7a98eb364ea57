use Rattle.lowered_shapes.proofs.TreeFlow.Whole.{well_formed}
use Rattle.lowered_shapes.proofs.tree_flow.converted_trees_are_well_formed.Goals as goal

pub returns : goal.returns
returns c = well_formed
