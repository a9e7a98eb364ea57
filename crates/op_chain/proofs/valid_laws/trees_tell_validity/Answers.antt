use Rattle.op_chain.proofs.ValidFusing.Whole.{trees_tell}
use Rattle.op_chain.proofs.valid_laws.trees_tell_validity.Goals as goal

pub returns : goal.returns
returns c = trees_tell
