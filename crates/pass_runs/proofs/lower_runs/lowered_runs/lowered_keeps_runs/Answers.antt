use Rattle.pass_runs.proofs.LowerRuns.LoweredRuns.Whole.{lowered_runs}
use Rattle.pass_runs.proofs.lower_runs.lowered_runs.lowered_keeps_runs.Goals as goal

pub returns : goal.returns
returns c = lowered_runs
