use Rattle.expanded_pieces.proofs.Whole.{expanded_well_formed}
use Rattle.expanded_pieces.proofs.laws.expanded_is_well_formed.Goals as goal

pub returns : goal.returns
returns c = expanded_well_formed
