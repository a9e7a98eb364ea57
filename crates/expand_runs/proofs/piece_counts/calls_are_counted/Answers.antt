use Rattle.expand_runs.proofs.PieceCounts.Calls.{calls_counted}
use Rattle.expand_runs.proofs.piece_counts.calls_are_counted.Goals as goal

pub returns : goal.returns
returns c = calls_counted
