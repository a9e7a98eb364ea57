use Rattle.hls_flow.proofs.AgreedComparisons.OneCircuit.{one_circuit_of}
use Rattle.hls_flow.proofs.agreed_comparisons.texts_have_one_circuit.Goals as goal

pub returns : goal.returns
returns c = one_circuit_of
