use Rattle.circuit_agreement.proofs.Nodes.{positive}
use Rattle.circuit_agreement.proofs.circuit_flow.laws.intervals_are_positive.Goals as goal

pub returns : goal.returns
returns c = positive
