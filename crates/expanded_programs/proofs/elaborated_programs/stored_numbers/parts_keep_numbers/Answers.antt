use Rattle.expanded_programs.proofs.ElaboratedPrograms.StoredNumbers.Parts.{parts_keep_numbers}
use Rattle.expanded_programs.proofs.elaborated_programs.stored_numbers.parts_keep_numbers.Goals as goal

pub returns : goal.returns
returns c = parts_keep_numbers
