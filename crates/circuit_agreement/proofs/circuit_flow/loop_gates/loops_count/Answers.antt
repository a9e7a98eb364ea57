use Rattle.circuit_agreement.proofs.LoopGates.Loops.{loops_count}
use Rattle.circuit_agreement.proofs.circuit_flow.loop_gates.loops_count.Goals as goal

pub returns : goal.returns
returns c = loops_count
