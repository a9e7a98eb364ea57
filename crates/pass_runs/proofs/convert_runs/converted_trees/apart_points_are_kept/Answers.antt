use Rattle.pass_runs.proofs.ConvertRuns.ConvertedTrees.Points.{apart}
use Rattle.pass_runs.proofs.convert_runs.converted_trees.apart_points_are_kept.Goals as goal

pub returns : goal.returns
returns c = apart
