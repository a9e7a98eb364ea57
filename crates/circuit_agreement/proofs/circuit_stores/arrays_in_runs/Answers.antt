use Rattle.circuit_agreement.proofs.CircuitStores.Shown.{loading_keeps}
use Rattle.circuit_agreement.proofs.CircuitStores.Storing.{nodes_store}
use Rattle.circuit_agreement.proofs.circuit_stores.arrays_in_runs.Goals as goal

pub returns : goal.returns
returns c = record { nodes = nodes_store; loading = loading_keeps }
