use Rattle.expanded_programs.proofs.ElaboratedPrograms.Whole.{elaborated_sound}
use Rattle.expanded_programs.proofs.elaborated_programs.laws.elaborated_programs_are_sound.Goals as goal

pub returns : goal.returns
returns c = elaborated_sound
