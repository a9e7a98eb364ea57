use Rattle.circuit_agreement.proofs.LoopGates.Controller.{loops_go_on}
use Rattle.circuit_agreement.proofs.circuit_flow.loop_gates.loops_go_on.Goals as goal

pub returns : goal.returns
returns c = loops_go_on
