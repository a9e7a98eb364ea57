use Rattle.expanded_pieces.proofs.BegunPieces.Suiting.{typed_pieces}
use Rattle.expanded_pieces.proofs.begun_pieces.typed_pieces_suit.Goals as goal

pub returns : goal.returns
returns c = typed_pieces
