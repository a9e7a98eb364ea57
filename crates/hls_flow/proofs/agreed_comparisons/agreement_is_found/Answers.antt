use Rattle.hls_flow.proofs.AgreedComparisons.Found.{agreement_found}
use Rattle.hls_flow.proofs.agreed_comparisons.agreement_is_found.Goals as goal

pub returns : goal.returns
returns c = agreement_found
