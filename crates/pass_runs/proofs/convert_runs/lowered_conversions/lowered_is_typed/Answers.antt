use Rattle.pass_runs.proofs.ConvertRuns.LoweredConversions.Whole.{typed}
use Rattle.pass_runs.proofs.convert_runs.lowered_conversions.lowered_is_typed.Goals as goal

pub returns : goal.returns
returns c = typed
