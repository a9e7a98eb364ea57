use Rattle.source_answers.proofs.SourceRuns.FinePieces.Sources.{sound_fine}
use Rattle.source_answers.proofs.source_runs.fine_pieces.sound_pieces_are_fine.Goals as goal

pub returns : goal.returns
returns c = sound_fine
