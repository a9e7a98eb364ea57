use Rattle.expanded_pieces.proofs.BegunPieces.Whole.{expanded_point}
use Rattle.expanded_pieces.proofs.begun_pieces.expanded_pieces_have_a_point.Goals as goal

pub returns : goal.returns
returns c = expanded_point
