use Rattle.pass_runs.proofs.LowerRuns.LoweredTrees.Trees.{lowered_ordered}
use Rattle.pass_runs.proofs.lower_runs.lowered_trees.lowered_is_ordered.Goals as goal

pub returns : goal.returns
returns c = λ scope pieces point. lowered_ordered scope pieces point
