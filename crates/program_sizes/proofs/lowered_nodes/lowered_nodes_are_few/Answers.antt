use Rattle.program_sizes.proofs.LoweredNodes.Trees.{lowered_nodes}
use Rattle.program_sizes.proofs.lowered_nodes.lowered_nodes_are_few.Goals as goal

pub returns : goal.returns
returns c = lowered_nodes
