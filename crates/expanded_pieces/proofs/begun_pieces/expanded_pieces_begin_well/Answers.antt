use Rattle.expanded_pieces.proofs.BegunPieces.Whole.{expanded_begin}
use Rattle.expanded_pieces.proofs.begun_pieces.expanded_pieces_begin_well.Goals as goal

pub returns : goal.returns
returns c = expanded_begin
