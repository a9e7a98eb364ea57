use Rattle.fsm_datapath.proofs.CircuitParts.Memories.{has_memories}
use Rattle.fsm_datapath.proofs.circuit_parts.assembled_has_memories.Goals as goal

pub returns : goal.returns
returns c = has_memories
