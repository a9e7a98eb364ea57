use Rattle.fsm_datapath.proofs.AssembledCircuits.Whole.{parts_are_assembled}
use Rattle.fsm_datapath.proofs.assembled_circuits.parts_are_assembled.Goals as goal

pub returns : goal.returns
returns c = parts_are_assembled
