use Rattle.source_answers.proofs.NodePoints.Whole.{points_differ}
use Rattle.source_answers.proofs.node_points.laid_out_points_differ.Goals as goal

pub returns : goal.returns
returns c = points_differ
