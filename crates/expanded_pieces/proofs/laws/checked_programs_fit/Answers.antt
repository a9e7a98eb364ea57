use Rattle.expanded_pieces.proofs.Whole.{checked_fit}
use Rattle.expanded_pieces.proofs.laws.checked_programs_fit.Goals as goal

pub returns : goal.returns
returns c = checked_fit
