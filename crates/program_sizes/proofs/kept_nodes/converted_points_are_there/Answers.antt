use Rattle.program_sizes.proofs.KeptNodes.Converted.{points_there}
use Rattle.program_sizes.proofs.kept_nodes.converted_points_are_there.Goals as goal

pub returns : goal.returns
returns c = points_there
