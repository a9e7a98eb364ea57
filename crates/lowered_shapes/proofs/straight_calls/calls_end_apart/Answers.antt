use Rattle.lowered_shapes.proofs.StraightCalls.Calls.{apart}
use Rattle.lowered_shapes.proofs.straight_calls.calls_end_apart.Goals as goal

pub returns : goal.returns
returns c = apart
