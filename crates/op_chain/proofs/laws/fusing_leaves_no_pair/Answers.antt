use Rattle.op_chain.proofs.NoPair.{none_left}
use Rattle.op_chain.proofs.laws.fusing_leaves_no_pair.Goals as goal

pub returns : goal.returns
returns c = none_left
