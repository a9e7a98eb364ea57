use Rattle.circuit_agreement.proofs.HeldResults.Beginning.{nothing_first}
use Rattle.circuit_agreement.proofs.circuit_flow.held_results.nothing_is_held_first.Goals as goal

pub returns : goal.returns
returns c = nothing_first
