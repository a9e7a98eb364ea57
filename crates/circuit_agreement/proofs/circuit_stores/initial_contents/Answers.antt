use Rattle.circuit_agreement.proofs.CircuitStores.Found.{found_contents}
use Rattle.circuit_agreement.proofs.CircuitStores.Starting.{filling_begins, filling_ends, filling_goes_on}
use Rattle.circuit_agreement.proofs.circuit_stores.initial_contents.Goals as goal

pub returns : goal.returns
returns c = record { found = found_contents; begins = filling_begins; goes_on = filling_goes_on; ends = filling_ends }
