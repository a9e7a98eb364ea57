use Rattle.program_sizes.proofs.KeptNodes.Begun.{nodes_begin}
use Rattle.program_sizes.proofs.kept_nodes.nodes_begin_at_blocks.Goals as goal

pub returns : goal.returns
returns c = nodes_begin
