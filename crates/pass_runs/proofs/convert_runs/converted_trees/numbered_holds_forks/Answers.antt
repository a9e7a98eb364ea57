use Rattle.pass_runs.proofs.ConvertRuns.ConvertedTrees.Numbered.{forks}
use Rattle.pass_runs.proofs.convert_runs.converted_trees.numbered_holds_forks.Goals as goal

pub returns : goal.returns
returns c = forks
