use Rattle.program_sizes.proofs.KeptNodes.Numbered.{nodes_stay}
use Rattle.program_sizes.proofs.kept_nodes.numbered_nodes_stay.Goals as goal

pub returns : goal.returns
returns c = nodes_stay
