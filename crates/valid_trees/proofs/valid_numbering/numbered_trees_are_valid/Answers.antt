use Rattle.valid_trees.proofs.ValidNumbering.Trees.{sequence_valid}
use Rattle.valid_trees.proofs.valid_numbering.numbered_trees_are_valid.Goals as goal

pub returns : goal.returns
returns c = sequence_valid
