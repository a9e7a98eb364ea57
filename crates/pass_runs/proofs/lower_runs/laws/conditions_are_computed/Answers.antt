use Rattle.pass_runs.proofs.LowerRuns.Whole.{conditions_computed}
use Rattle.pass_runs.proofs.lower_runs.laws.conditions_are_computed.Goals as goal

pub returns : goal.returns
returns c = conditions_computed
