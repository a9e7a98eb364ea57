use Rattle.pass_runs.proofs.LowerRuns.LoweredRuns.Whole.{programs_run}
use Rattle.pass_runs.proofs.lower_runs.lowered_runs.programs_keep_runs.Goals as goal

pub returns : goal.returns
returns c = programs_run
