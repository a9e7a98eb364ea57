use Rattle.valid_trees.proofs.ValidLowering.Types.{proper}
use Rattle.valid_trees.proofs.valid_lowering.operators_are_proper.Goals as goal

pub returns : goal.returns
returns c = proper
