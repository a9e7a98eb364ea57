use Rattle.source_answers.proofs.SourceRuns.FinePieces.Typing.{sound_typed}
use Rattle.source_answers.proofs.source_runs.fine_pieces.sound_pieces_are_typed.Goals as goal

pub returns : goal.returns
returns c = sound_typed
