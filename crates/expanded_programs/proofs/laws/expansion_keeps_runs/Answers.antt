use Rattle.expanded_programs.proofs.Whole.{expansion_kept}
use Rattle.expanded_programs.proofs.laws.expansion_keeps_runs.Goals as goal

pub returns : goal.returns
returns c = expansion_kept
