use Rattle.lowered_shapes.proofs.ConvertedShapes.Left.{left}
use Rattle.lowered_shapes.proofs.converted_shapes.no_fork_is_left.Goals as goal

pub returns : goal.returns
returns c = left
