use Rattle.clock_runs.proofs.IntervalBounds.Whole.{tight_is_low}
use Rattle.clock_runs.proofs.interval_bounds.too_tight_intervals_are_low.Goals as goal

pub returns : goal.returns
returns c = tight_is_low
