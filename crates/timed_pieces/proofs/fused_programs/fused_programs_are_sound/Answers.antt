use Rattle.timed_pieces.proofs.FusedPrograms.Whole.{fused_sound}
use Rattle.timed_pieces.proofs.fused_programs.fused_programs_are_sound.Goals as goal

pub returns : goal.returns
returns c = fused_sound
