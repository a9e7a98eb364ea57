use Rattle.source_answers.proofs.SourceRuns.FinePieces.Whole.{pieces_fine}
use Rattle.source_answers.proofs.source_runs.fine_pieces.expanded_pieces_are_fine.Goals as goal

pub returns : goal.returns
returns c = pieces_fine
