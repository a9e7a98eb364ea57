use Rattle.compiled_plans.proofs.ValidNodes.{fused_once}
use Rattle.compiled_plans.proofs.valid_nodes.fused_nodes_set_once.Goals as goal

pub returns : goal.returns
returns c = fused_once
