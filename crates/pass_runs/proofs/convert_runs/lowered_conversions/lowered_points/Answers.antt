use Rattle.pass_runs.proofs.ConvertRuns.LoweredConversions.Points.{points}
use Rattle.pass_runs.proofs.convert_runs.lowered_conversions.lowered_points.Goals as goal

pub returns : goal.returns
returns c = points
