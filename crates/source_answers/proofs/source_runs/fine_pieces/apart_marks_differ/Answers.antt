use Rattle.source_answers.proofs.SourceRuns.FinePieces.Dealing.{marks_differ}
use Rattle.source_answers.proofs.source_runs.fine_pieces.apart_marks_differ.Goals as goal

pub returns : goal.returns
returns c = marks_differ
