use Rattle.sound_trees.proofs.ValidPrograms.Whole.{sound_once}
use Rattle.sound_trees.proofs.valid_programs.sound_programs_set_once.Goals as goal

pub returns : goal.returns
returns c = sound_once
