use Rattle.lowered_shapes.proofs.StraightCalls.Calls.{convert}
use Rattle.lowered_shapes.proofs.straight_calls.expanded_shapes_convert.Goals as goal

pub returns : goal.returns
returns c = convert
