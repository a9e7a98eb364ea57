use Rattle.c_meaning.proofs.Results.{binary_fits}
use Rattle.c_meaning.proofs.operator_results.binary_results_fit.Goals as goal

pub returns : goal.returns
returns c = binary_fits
