use Rattle.datapath.proofs.Carrying.{register}
use Rattle.datapath.proofs.circuit_wires.registers_carry.Goals as goal

pub returns : goal.returns
returns c = register
