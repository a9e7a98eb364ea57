use Rattle.expanded_programs.proofs.StatementsLemmas.Whole.{kept}
use Rattle.expanded_programs.proofs.statements.statements_keep_runs.Goals as goal

pub returns : goal.returns
returns c = kept
