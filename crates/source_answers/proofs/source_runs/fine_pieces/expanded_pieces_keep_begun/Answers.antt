use Rattle.source_answers.proofs.SourceRuns.FinePieces.Whole.{keep_begun}
use Rattle.source_answers.proofs.source_runs.fine_pieces.expanded_pieces_keep_begun.Goals as goal

pub returns : goal.returns
returns c = keep_begun
