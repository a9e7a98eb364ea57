use Rattle.expanded_pieces.proofs.ApartPoints.Sources.{source_points}
use Rattle.expanded_pieces.proofs.apart_points.source_points_differ.Goals as goal

pub returns : goal.returns
returns c = source_points
