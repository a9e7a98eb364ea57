use Rattle.pass_runs.proofs.LowerRuns.LoweredTrees.Fitting.{lowered_fits}
use Rattle.pass_runs.proofs.lower_runs.lowered_trees.lowered_is_well_formed.Goals as goal

pub returns : goal.returns
returns c = λ scope pieces point fit. lowered_fits scope pieces point fit
