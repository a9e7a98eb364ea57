use Rattle.circuit_agreement.proofs.NodeEnds.Handing.{blocks_hand_on}
use Rattle.circuit_agreement.proofs.circuit_flow.node_ends.blocks_hand_on.Goals as goal

pub returns : goal.returns
returns c = blocks_hand_on
