use Rattle.circuit_agreement.proofs.ApartStores.Programs.{apart_at}
use Rattle.circuit_agreement.proofs.apart_stores.stores_stay_apart.Goals as goal

pub returns : goal.returns
returns c = apart_at
