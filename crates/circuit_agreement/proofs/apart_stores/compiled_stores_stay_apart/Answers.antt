use Rattle.circuit_agreement.proofs.ApartStores.Circuits.{compiled}
use Rattle.circuit_agreement.proofs.apart_stores.compiled_stores_stay_apart.Goals as goal

pub returns : goal.returns
returns c = compiled
