use Rattle.pass_runs.proofs.ConvertRuns.LoweredConversions.Forks.{forks}
use Rattle.pass_runs.proofs.convert_runs.lowered_conversions.straight_holds_forks.Goals as goal

pub returns : goal.returns
returns c = forks
