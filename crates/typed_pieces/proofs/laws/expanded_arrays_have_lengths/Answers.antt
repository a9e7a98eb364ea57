use Rattle.typed_pieces.proofs.Whole.{expanded_lengths}
use Rattle.typed_pieces.proofs.laws.expanded_arrays_have_lengths.Goals as goal

pub returns : goal.returns
returns c = expanded_lengths
