use Rattle.expanded_pieces.proofs.Elaborated.{elaborated_jumps}
use Rattle.expanded_pieces.proofs.laws.elaborated_jumps_fit.Goals as goal

pub returns : goal.returns
returns c = elaborated_jumps
