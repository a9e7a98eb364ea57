use Rattle.expanded_pieces.proofs.Calls.{expanded_fit}
use Rattle.expanded_pieces.proofs.laws.expanded_pieces_fit.Goals as goal

pub returns : goal.returns
returns c = expanded_fit
