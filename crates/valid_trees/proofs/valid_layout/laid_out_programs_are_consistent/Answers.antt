use Rattle.valid_trees.proofs.ValidLayout.Whole.{laid_out_consistent}
use Rattle.valid_trees.proofs.valid_layout.laid_out_programs_are_consistent.Goals as goal

pub returns : goal.returns
returns c = laid_out_consistent
