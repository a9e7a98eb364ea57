use Rattle.circuit_agreement.proofs.HeldResults.Beginning.{entries_held}
use Rattle.circuit_agreement.proofs.circuit_flow.held_results.entries_are_held.Goals as goal

pub returns : goal.returns
returns c = entries_held
