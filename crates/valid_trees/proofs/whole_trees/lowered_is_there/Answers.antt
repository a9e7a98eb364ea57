use Rattle.valid_trees.proofs.WholeTrees.Lowered.{there}
use Rattle.valid_trees.proofs.whole_trees.lowered_is_there.Goals as goal

pub returns : goal.returns
returns c = there
