use Rattle.valid_trees.proofs.WholeTrees.Program.{there}
use Rattle.valid_trees.proofs.whole_trees.program_is_there.Goals as goal

pub returns : goal.returns
returns c = there
