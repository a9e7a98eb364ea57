use Rattle.expanded_programs.proofs.ElaboratedPrograms.Whole.{checked_kept}
use Rattle.expanded_programs.proofs.elaborated_programs.laws.checked_programs_keep_runs.Goals as goal

pub returns : goal.returns
returns c = checked_kept
