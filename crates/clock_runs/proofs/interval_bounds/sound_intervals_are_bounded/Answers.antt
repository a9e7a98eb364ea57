use Rattle.clock_runs.proofs.IntervalBounds.Whole.{sound_bounded}
use Rattle.clock_runs.proofs.interval_bounds.sound_intervals_are_bounded.Goals as goal

pub returns : goal.returns
returns c = sound_bounded
