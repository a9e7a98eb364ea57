use Rattle.circuit_agreement.proofs.LoopGates.Controller.{blocks_go_on}
use Rattle.circuit_agreement.proofs.circuit_flow.loop_gates.blocks_go_on.Goals as goal

pub returns : goal.returns
returns c = blocks_go_on
