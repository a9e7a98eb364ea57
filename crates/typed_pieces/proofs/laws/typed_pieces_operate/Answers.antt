use Rattle.typed_pieces.proofs.Proper.{pieces_operate}
use Rattle.typed_pieces.proofs.laws.typed_pieces_operate.Goals as goal

pub returns : goal.returns
returns c = pieces_operate
