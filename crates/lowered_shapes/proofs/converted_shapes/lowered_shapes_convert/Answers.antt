use Rattle.lowered_shapes.proofs.ConvertedShapes.Lowered.{shapes}
use Rattle.lowered_shapes.proofs.converted_shapes.lowered_shapes_convert.Goals as goal

pub returns : goal.returns
returns c = shapes
