use Rattle.source_answers.proofs.SourceRuns.Whole.{kept_runs}
use Rattle.source_answers.proofs.source_runs.laws.source_programs_keep_runs.Goals as goal

pub returns : goal.returns
returns c = kept_runs
