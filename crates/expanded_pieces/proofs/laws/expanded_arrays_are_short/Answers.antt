use Rattle.expanded_pieces.proofs.Calls.{expanded_short}
use Rattle.expanded_pieces.proofs.laws.expanded_arrays_are_short.Goals as goal

pub returns : goal.returns
returns c = expanded_short
