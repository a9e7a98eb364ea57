use Rattle.circuit_agreement.proofs.LoopGates.Controller.{loops_begin}
use Rattle.circuit_agreement.proofs.circuit_flow.loop_gates.loops_begin.Goals as goal

pub returns : goal.returns
returns c = loops_begin
