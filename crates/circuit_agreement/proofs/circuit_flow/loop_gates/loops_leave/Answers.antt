use Rattle.circuit_agreement.proofs.LoopGates.Uses.{loops_leave}
use Rattle.circuit_agreement.proofs.circuit_flow.loop_gates.loops_leave.Goals as goal

pub returns : goal.returns
returns c = loops_leave
