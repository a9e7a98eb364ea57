use Rattle.sound_trees.proofs.ValidPrograms.Whole.{results_returned}
use Rattle.sound_trees.proofs.valid_programs.valid_programs_return_results.Goals as goal

pub returns : goal.returns
returns c = results_returned
