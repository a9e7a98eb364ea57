use Rattle.program_validity.proofs.Whole.{whole}
use Rattle.program_validity.proofs.valid_programs.valid_programs_are_whole.Goals as goal

pub returns : goal.returns
returns c = whole
