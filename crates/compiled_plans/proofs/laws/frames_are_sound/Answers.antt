use Rattle.compiled_plans.proofs.Sound.{sound}
use Rattle.compiled_plans.proofs.laws.frames_are_sound.Goals as goal

pub returns : goal.returns
returns c = sound
