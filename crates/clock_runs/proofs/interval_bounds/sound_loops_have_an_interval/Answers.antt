use Rattle.clock_runs.proofs.IntervalBounds.Whole.{sound_interval}
use Rattle.clock_runs.proofs.interval_bounds.sound_loops_have_an_interval.Goals as goal

pub returns : goal.returns
returns c = sound_interval
