use Rattle.c_meaning.proofs.PointsOfRuns.{runs_pass_points}
use Rattle.c_meaning.proofs.laws.runs_pass_points.Goals as goal

pub returns : goal.returns
returns c = runs_pass_points
