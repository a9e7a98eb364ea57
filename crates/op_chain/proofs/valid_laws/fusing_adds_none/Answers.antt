use Rattle.op_chain.proofs.ValidFusing.Skeletons.{adds_none}
use Rattle.op_chain.proofs.valid_laws.fusing_adds_none.Goals as goal

pub returns : goal.returns
returns c = adds_none
