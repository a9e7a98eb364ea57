use Rattle.typed_pieces.proofs.Typing.{pieces_suit}
use Rattle.typed_pieces.proofs.laws.typed_pieces_suit.Goals as goal

pub returns : goal.returns
returns c = pieces_suit
