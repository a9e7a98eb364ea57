use Rattle.op_chain.proofs.ValidFusing.Forward.{valid_there}
use Rattle.op_chain.proofs.valid_laws.valid_nodes_are_there.Goals as goal

pub returns : goal.returns
returns c = valid_there
