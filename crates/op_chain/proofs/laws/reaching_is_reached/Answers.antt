use Rattle.op_chain.proofs.Reached.{reached}
use Rattle.op_chain.proofs.laws.reaching_is_reached.Goals as goal

pub returns : goal.returns
returns c = reached
