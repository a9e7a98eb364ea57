use Rattle.pass_runs.proofs.ConvertRuns.LoweredConversions.Points.{keeps}
use Rattle.pass_runs.proofs.convert_runs.lowered_conversions.numbered_lowered_keeps.Goals as goal

pub returns : goal.returns
returns c = keeps
