use Rattle.clock_runs.proofs.IntervalBounds.Whole.{sound_go_forward}
use Rattle.clock_runs.proofs.interval_bounds.sound_loops_go_forward.Goals as goal

pub returns : goal.returns
returns c = sound_go_forward
