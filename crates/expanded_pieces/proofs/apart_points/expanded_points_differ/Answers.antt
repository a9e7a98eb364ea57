use Rattle.expanded_pieces.proofs.ApartPoints.Whole.{points_differ}
use Rattle.expanded_pieces.proofs.apart_points.expanded_points_differ.Goals as goal

pub returns : goal.returns
returns c = points_differ
