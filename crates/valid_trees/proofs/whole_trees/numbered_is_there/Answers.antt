use Rattle.valid_trees.proofs.WholeTrees.Numbered.{there}
use Rattle.valid_trees.proofs.whole_trees.numbered_is_there.Goals as goal

pub returns : goal.returns
returns c = there
