use Rattle.source_answers.proofs.NodePoints.Whole.{passes_kept}
use Rattle.source_answers.proofs.node_points.laid_out_passes_kept.Goals as goal

pub returns : goal.returns
returns c = passes_kept
