use Rattle.expanded_programs.proofs.ElaboratedPrograms.StoredNumbers.Ending.{runs_hold_numbers}
use Rattle.expanded_programs.proofs.elaborated_programs.stored_numbers.runs_hold_numbers.Goals as goal

pub returns : goal.returns
returns c = runs_hold_numbers
