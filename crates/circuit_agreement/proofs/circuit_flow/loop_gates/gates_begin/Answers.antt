use Rattle.circuit_agreement.proofs.LoopGates.Loops.{gates_begin}
use Rattle.circuit_agreement.proofs.circuit_flow.loop_gates.gates_begin.Goals as goal

pub returns : goal.returns
returns c = gates_begin
