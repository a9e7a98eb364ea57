use Rattle.c_meaning.proofs.Results.{unary_fits}
use Rattle.c_meaning.proofs.operator_results.unary_results_fit.Goals as goal

pub returns : goal.returns
returns c = unary_fits
