use Rattle.op_chain.proofs.ValidFusing.Forward.{valid_forward}
use Rattle.op_chain.proofs.valid_laws.valid_nodes_are_forward.Goals as goal

pub returns : goal.returns
returns c = valid_forward
