use Rattle.pass_runs.proofs.LowerRuns.Whole.{puts_shown}
use Rattle.pass_runs.proofs.lower_runs.laws.puts_are_shown.Goals as goal

pub returns : goal.returns
returns c = puts_shown
