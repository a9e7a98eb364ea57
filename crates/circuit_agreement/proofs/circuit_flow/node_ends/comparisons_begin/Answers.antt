use Rattle.circuit_agreement.proofs.NodeEnds.Comparing.{comparisons_begin}
use Rattle.circuit_agreement.proofs.circuit_flow.node_ends.comparisons_begin.Goals as goal

pub returns : goal.returns
returns c = comparisons_begin
