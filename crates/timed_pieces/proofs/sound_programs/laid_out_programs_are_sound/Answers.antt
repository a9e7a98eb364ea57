use Rattle.timed_pieces.proofs.SoundPrograms.Whole.{sound}
use Rattle.timed_pieces.proofs.sound_programs.laid_out_programs_are_sound.Goals as goal

pub returns : goal.returns
returns c = sound
