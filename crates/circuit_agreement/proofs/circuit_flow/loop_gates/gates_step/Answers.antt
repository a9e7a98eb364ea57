use Rattle.circuit_agreement.proofs.LoopGates.Loops.{gates_step}
use Rattle.circuit_agreement.proofs.circuit_flow.loop_gates.gates_step.Goals as goal

pub returns : goal.returns
returns c = gates_step
