use Rattle.circuit_agreement.proofs.NodeEnds.Entering.{blocks_enter}
use Rattle.circuit_agreement.proofs.circuit_flow.node_ends.blocks_enter.Goals as goal

pub returns : goal.returns
returns c = blocks_enter
