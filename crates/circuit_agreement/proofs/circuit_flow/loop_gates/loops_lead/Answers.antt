use Rattle.circuit_agreement.proofs.LoopGates.Controller.{loops_lead}
use Rattle.circuit_agreement.proofs.circuit_flow.loop_gates.loops_lead.Goals as goal

pub returns : goal.returns
returns c = loops_lead
