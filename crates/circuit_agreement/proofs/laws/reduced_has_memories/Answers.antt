use Rattle.circuit_agreement.proofs.Widths.{reduced_has_memories}
use Rattle.circuit_agreement.proofs.laws.reduced_has_memories.Goals as goal

pub returns : goal.returns
returns c = reduced_has_memories
