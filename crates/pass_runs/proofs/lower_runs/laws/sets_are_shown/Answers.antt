use Rattle.pass_runs.proofs.LowerRuns.Whole.{sets_shown}
use Rattle.pass_runs.proofs.lower_runs.laws.sets_are_shown.Goals as goal

pub returns : goal.returns
returns c = sets_shown
