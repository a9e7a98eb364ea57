use Rattle.circuit_agreement.proofs.NodeEnds.Staying.{variables_stay_waiting}
use Rattle.circuit_agreement.proofs.circuit_flow.node_ends.variables_stay_waiting.Goals as goal

pub returns : goal.returns
returns c = variables_stay_waiting
