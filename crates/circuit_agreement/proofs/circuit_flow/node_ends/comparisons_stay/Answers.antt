use Rattle.circuit_agreement.proofs.NodeEnds.Comparing.{comparisons_stay}
use Rattle.circuit_agreement.proofs.circuit_flow.node_ends.comparisons_stay.Goals as goal

pub returns : goal.returns
returns c = comparisons_stay
