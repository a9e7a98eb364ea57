use Rattle.expanded_pieces.proofs.Elaborated.{elaborated_lengths}
use Rattle.expanded_pieces.proofs.laws.elaborated_lengths_fit.Goals as goal

pub returns : goal.returns
returns c = elaborated_lengths
