use Rattle.op_chain.proofs.ValidFusing.Skeletons.{skeletons_stay}
use Rattle.op_chain.proofs.valid_laws.fusing_keeps_skeletons.Goals as goal

pub returns : goal.returns
returns c = skeletons_stay
