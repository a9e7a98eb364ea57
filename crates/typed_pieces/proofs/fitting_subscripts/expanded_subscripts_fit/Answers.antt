use Rattle.typed_pieces.proofs.FittingSubscripts.Whole.{expanded_fit}
use Rattle.typed_pieces.proofs.fitting_subscripts.expanded_subscripts_fit.Goals as goal

pub returns : goal.returns
returns c = expanded_fit
