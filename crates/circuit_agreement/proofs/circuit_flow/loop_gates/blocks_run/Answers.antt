use Rattle.circuit_agreement.proofs.LoopGates.Blocks.{blocks_run}
use Rattle.circuit_agreement.proofs.circuit_flow.loop_gates.blocks_run.Goals as goal

pub returns : goal.returns
returns c = blocks_run
