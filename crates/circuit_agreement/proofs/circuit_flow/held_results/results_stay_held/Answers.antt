use Rattle.circuit_agreement.proofs.HeldResults.Steps.{stays_held_law}
use Rattle.circuit_agreement.proofs.circuit_flow.held_results.results_stay_held.Goals as goal

pub returns : goal.returns
returns c = stays_held_law
