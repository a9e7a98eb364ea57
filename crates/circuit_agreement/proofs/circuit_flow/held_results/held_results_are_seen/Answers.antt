use Rattle.circuit_agreement.proofs.HeldResults.Seeing.{results_seen}
use Rattle.circuit_agreement.proofs.circuit_flow.held_results.held_results_are_seen.Goals as goal

pub returns : goal.returns
returns c = results_seen
