use Rattle.expanded_pieces.proofs.BlockPoints.Points.{points_differ}
use Rattle.expanded_pieces.proofs.block_points.suiting_points_differ.Goals as goal

pub returns : goal.returns
returns c = points_differ
