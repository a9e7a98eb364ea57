use Rattle.hls_flow.proofs.AgreedComparisons.Whole.{never_differ}
use Rattle.hls_flow.proofs.agreed_comparisons.agreed_modules_never_differ.Goals as goal

pub returns : goal.returns
returns c = never_differ
