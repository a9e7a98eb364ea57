use Rattle.valid_trees.proofs.ValidConversion.Trees.{tree_valid}
use Rattle.valid_trees.proofs.valid_conversion.converted_trees_are_valid.Goals as goal

pub returns : goal.returns
returns c = tree_valid
