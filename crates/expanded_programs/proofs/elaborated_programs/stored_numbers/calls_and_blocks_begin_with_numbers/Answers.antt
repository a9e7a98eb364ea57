use Rattle.expanded_programs.proofs.ElaboratedPrograms.StoredNumbers.Parts.{calls_and_blocks_begin_with_numbers}
use Rattle.expanded_programs.proofs.elaborated_programs.stored_numbers.calls_and_blocks_begin_with_numbers.Goals as goal

pub returns : goal.returns
returns c = calls_and_blocks_begin_with_numbers
