use Rattle.clock_runs.proofs.IntervalBounds.Whole.{later_is_forward}
use Rattle.clock_runs.proofs.interval_bounds.rules_to_later_nodes_go_forward.Goals as goal

pub returns : goal.returns
returns c = later_is_forward
