use Rattle.timed_pieces.proofs.Whole.{clocked}
use Rattle.timed_pieces.proofs.laws.scheduled_pieces_keep_runs.Goals as goal

pub returns : goal.returns
returns c = clocked
