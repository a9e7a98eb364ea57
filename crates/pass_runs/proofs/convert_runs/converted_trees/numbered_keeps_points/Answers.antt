use Rattle.pass_runs.proofs.ConvertRuns.ConvertedTrees.Points.{numbered}
use Rattle.pass_runs.proofs.convert_runs.converted_trees.numbered_keeps_points.Goals as goal

pub returns : goal.returns
returns c = numbered
