use Rattle.timed_pieces.proofs.TimedValidity.Whole.{times_keep}
use Rattle.timed_pieces.proofs.timed_validity.times_keep_validity.Goals as goal

pub returns : goal.returns
returns c = times_keep
