use Rattle.program_sizes.proofs.KeptNodes.Converted.{points_stay}
use Rattle.program_sizes.proofs.kept_nodes.converted_points_stay.Goals as goal

pub returns : goal.returns
returns c = points_stay
