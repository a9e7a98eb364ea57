use Rattle.expanded_pieces.proofs.BegunPieces.Whole.{expanded_begin_there}
use Rattle.expanded_pieces.proofs.begun_pieces.expanded_pieces_begin_at_their_points.Goals as goal

pub returns : goal.returns
returns c = expanded_begin_there
