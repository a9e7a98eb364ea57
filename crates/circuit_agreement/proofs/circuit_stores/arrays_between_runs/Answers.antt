use Rattle.circuit_agreement.proofs.CircuitStores.Serving.{hosts_are_served}
use Rattle.circuit_agreement.proofs.CircuitStores.Shown.{contents_are_shown, words_are_held}
use Rattle.circuit_agreement.proofs.CircuitStores.Starting.{runs_begin}
use Rattle.circuit_agreement.proofs.circuit_stores.arrays_between_runs.Goals as goal

pub returns : goal.returns
returns c = record { held = words_are_held; shown = contents_are_shown; served = hosts_are_served; begin = runs_begin }
