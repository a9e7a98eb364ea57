use Rattle.sound_trees.proofs.Whole.{sound}
use Rattle.sound_trees.proofs.laws.trees_become_sound.Goals as goal

pub returns : goal.returns
returns c = sound
