use Rattle.circuit_agreement.proofs.LoopGates.Uses.{loops_store}
use Rattle.circuit_agreement.proofs.circuit_flow.loop_gates.loops_store.Goals as goal

pub returns : goal.returns
returns c = loops_store
