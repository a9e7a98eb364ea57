use Rattle.source_answers.proofs.SourceRuns.ElaboratedSubscripts.Programs.{checked_fit}
use Rattle.source_answers.proofs.source_runs.elaborated_subscripts.checked_subscripts_fit.Goals as goal

pub returns : goal.returns
returns c = checked_fit
