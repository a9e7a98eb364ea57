use Rattle.pass_runs.proofs.ConvertRuns.LoweredConversions.Whole.{numbered_typed}
use Rattle.pass_runs.proofs.convert_runs.lowered_conversions.numbered_lowered_is_typed.Goals as goal

pub returns : goal.returns
returns c = numbered_typed
