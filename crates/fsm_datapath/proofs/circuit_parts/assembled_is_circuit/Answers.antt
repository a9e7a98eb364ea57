use Rattle.fsm_datapath.proofs.CircuitParts.Whole.{is_circuit}
use Rattle.fsm_datapath.proofs.circuit_parts.assembled_is_circuit.Goals as goal

pub returns : goal.returns
returns c = is_circuit
