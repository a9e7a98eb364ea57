use Rattle.compiled_plans.proofs.ValidNodes.{dividing_once}
use Rattle.compiled_plans.proofs.valid_nodes.dividing_nodes_set_once.Goals as goal

pub returns : goal.returns
returns c = dividing_once
