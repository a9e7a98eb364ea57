use Rattle.pass_runs.proofs.ConvertRuns.Forks.{forks}
use Rattle.pass_runs.proofs.convert_runs.laws.forks_are_merged.Goals as goal

pub returns : goal.returns
returns c = forks
