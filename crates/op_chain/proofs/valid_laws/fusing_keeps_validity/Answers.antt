use Rattle.op_chain.proofs.ValidFusing.Whole.{keeps_validity}
use Rattle.op_chain.proofs.valid_laws.fusing_keeps_validity.Goals as goal

pub returns : goal.returns
returns c = keeps_validity
