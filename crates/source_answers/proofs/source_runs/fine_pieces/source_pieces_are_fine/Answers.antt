use Rattle.source_answers.proofs.SourceRuns.FinePieces.Sources.{source_fine}
use Rattle.source_answers.proofs.source_runs.fine_pieces.source_pieces_are_fine.Goals as goal

pub returns : goal.returns
returns c = source_fine
