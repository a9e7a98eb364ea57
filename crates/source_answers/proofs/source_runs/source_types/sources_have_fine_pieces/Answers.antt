use Rattle.source_answers.proofs.SourceRuns.SourceTypes.Whole.{sources_fine}
use Rattle.source_answers.proofs.source_runs.source_types.sources_have_fine_pieces.Goals as goal

pub returns : goal.returns
returns c = sources_fine
