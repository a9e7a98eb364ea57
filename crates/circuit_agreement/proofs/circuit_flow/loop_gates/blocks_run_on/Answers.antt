use Rattle.circuit_agreement.proofs.LoopGates.Blocks.{blocks_run_on}
use Rattle.circuit_agreement.proofs.circuit_flow.loop_gates.blocks_run_on.Goals as goal

pub returns : goal.returns
returns c = blocks_run_on
