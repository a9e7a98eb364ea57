use Rattle.source_answers.proofs.SourceRuns.SourceTypes.Whole.{sources_lengths}
use Rattle.source_answers.proofs.source_runs.source_types.sources_arrays_have_lengths.Goals as goal

pub returns : goal.returns
returns c = sources_lengths
