use Rattle.circuit_agreement.proofs.LoopGates.Blocks.{blocks_store}
use Rattle.circuit_agreement.proofs.circuit_flow.loop_gates.blocks_store.Goals as goal

pub returns : goal.returns
returns c = blocks_store
