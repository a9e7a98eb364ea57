use Rattle.circuit_agreement.proofs.NodeEnds.Loops.{loops_hand_on}
use Rattle.circuit_agreement.proofs.circuit_flow.node_ends.loops_hand_on.Goals as goal

pub returns : goal.returns
returns c = loops_hand_on
