use Rattle.op_chain.proofs.ValidFusing.Skeletons.{operands_pass}
use Rattle.op_chain.proofs.valid_laws.fusing_keeps_operands.Goals as goal

pub returns : goal.returns
returns c = operands_pass
