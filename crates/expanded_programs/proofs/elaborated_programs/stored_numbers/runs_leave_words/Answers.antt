use Rattle.expanded_programs.proofs.ElaboratedPrograms.StoredNumbers.Ending.{runs_leave_words}
use Rattle.expanded_programs.proofs.elaborated_programs.stored_numbers.runs_leave_words.Goals as goal

pub returns : goal.returns
returns c = runs_leave_words
