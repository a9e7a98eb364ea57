use Rattle.typed_pieces.proofs.Whole.{expanded_typed}
use Rattle.typed_pieces.proofs.laws.expanded_pieces_are_typed.Goals as goal

pub returns : goal.returns
returns c = expanded_typed
