use Rattle.pass_runs.proofs.ConvertRuns.LoweredConversions.Forks.{numbered_forks}
use Rattle.pass_runs.proofs.convert_runs.lowered_conversions.numbered_straight_holds_forks.Goals as goal

pub returns : goal.returns
returns c = numbered_forks
