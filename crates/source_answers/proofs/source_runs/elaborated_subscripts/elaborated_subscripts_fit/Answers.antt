use Rattle.source_answers.proofs.SourceRuns.ElaboratedSubscripts.Programs.{elaborated_fit}
use Rattle.source_answers.proofs.source_runs.elaborated_subscripts.elaborated_subscripts_fit.Goals as goal

pub returns : goal.returns
returns c = elaborated_fit
