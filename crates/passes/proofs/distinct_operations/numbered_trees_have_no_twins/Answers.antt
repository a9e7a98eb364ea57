use Rattle.passes.proofs.DistinctOperations.Trees.{tree_distinct}
use Rattle.passes.proofs.distinct_operations.numbered_trees_have_no_twins.Goals as goal

pub returns : goal.returns
returns c = tree_distinct
