use Rattle.circuit_agreement.proofs.Entering.{nodes_are_entered}
use Rattle.circuit_agreement.proofs.laws.nodes_are_entered.Goals as goal

pub returns : goal.returns
returns c = nodes_are_entered
