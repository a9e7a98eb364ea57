use Rattle.datapath.proofs.Carrying.{stays}
use Rattle.datapath.proofs.circuit_wires.carried_stays.Goals as goal

pub returns : goal.returns
returns c = stays
