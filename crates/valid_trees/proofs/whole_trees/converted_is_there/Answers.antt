use Rattle.valid_trees.proofs.WholeTrees.Converted.{there}
use Rattle.valid_trees.proofs.whole_trees.converted_is_there.Goals as goal

pub returns : goal.returns
returns c = there
