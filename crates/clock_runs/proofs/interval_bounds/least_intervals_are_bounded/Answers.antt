use Rattle.clock_runs.proofs.IntervalBounds.Whole.{least_is_bounded}
use Rattle.clock_runs.proofs.interval_bounds.least_intervals_are_bounded.Goals as goal

pub returns : goal.returns
returns c = least_is_bounded
