use Rattle.clock_runs.proofs.Whole.{times_keep}
use Rattle.clock_runs.proofs.laws.times_keep_runs.Goals as goal

pub returns : goal.returns
returns c = times_keep
