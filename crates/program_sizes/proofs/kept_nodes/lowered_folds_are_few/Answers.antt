use Rattle.program_sizes.proofs.KeptNodes.Folds.{folds_few}
use Rattle.program_sizes.proofs.kept_nodes.lowered_folds_are_few.Goals as goal

pub returns : goal.returns
returns c = folds_few
