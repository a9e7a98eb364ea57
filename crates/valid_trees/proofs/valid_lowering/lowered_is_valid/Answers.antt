use Rattle.valid_trees.proofs.ValidLowering.Lowered.{lowered_valid}
use Rattle.valid_trees.proofs.valid_lowering.lowered_is_valid.Goals as goal

pub returns : goal.returns
returns c = lowered_valid
