use Rattle.compiled_plans.proofs.ValidNodes.{valid_named}
use Rattle.compiled_plans.proofs.valid_nodes.valid_nodes_are_named.Goals as goal

pub returns : goal.returns
returns c = valid_named
