use Rattle.expanded_pieces.proofs.ApartPoints.Tokens.{source_places}
use Rattle.expanded_pieces.proofs.apart_points.source_places_differ.Goals as goal

pub returns : goal.returns
returns c = source_places
