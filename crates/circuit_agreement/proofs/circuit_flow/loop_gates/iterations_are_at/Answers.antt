use Rattle.circuit_agreement.proofs.LoopGates.Uses.{iterations_are_at}
use Rattle.circuit_agreement.proofs.circuit_flow.loop_gates.iterations_are_at.Goals as goal

pub returns : goal.returns
returns c = iterations_are_at
