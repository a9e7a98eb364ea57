use Rattle.source_answers.proofs.SourceRuns.SourceTypes.Types.{tokens_typed}
use Rattle.source_answers.proofs.source_runs.source_types.source_tokens_have_types.Goals as goal

pub returns : goal.returns
returns c = tokens_typed
