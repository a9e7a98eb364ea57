use Rattle.pass_runs.proofs.ConvertRuns.Whole.{trees}
use Rattle.pass_runs.proofs.convert_runs.laws.trees_keep_runs.Goals as goal

pub returns : goal.returns
returns c = trees
