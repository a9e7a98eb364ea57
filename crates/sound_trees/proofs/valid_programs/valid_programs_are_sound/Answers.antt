use Rattle.sound_trees.proofs.ValidPrograms.Whole.{valid_sound}
use Rattle.sound_trees.proofs.valid_programs.valid_programs_are_sound.Goals as goal

pub returns : goal.returns
returns c = valid_sound
