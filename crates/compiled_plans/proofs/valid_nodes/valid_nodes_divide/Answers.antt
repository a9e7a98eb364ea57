use Rattle.compiled_plans.proofs.ValidNodes.{valid_divide}
use Rattle.compiled_plans.proofs.valid_nodes.valid_nodes_divide.Goals as goal

pub returns : goal.returns
returns c = valid_divide
