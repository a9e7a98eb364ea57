use Rattle.clock_runs.proofs.IntervalBounds.Whole.{interval_exists}
use Rattle.clock_runs.proofs.interval_bounds.forward_rules_have_an_interval.Goals as goal

pub returns : goal.returns
returns c = interval_exists
