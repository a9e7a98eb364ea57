use Rattle.pass_runs.proofs.LowerRuns.Whole.{values_computed}
use Rattle.pass_runs.proofs.lower_runs.laws.values_are_computed.Goals as goal

pub returns : goal.returns
returns c = values_computed
