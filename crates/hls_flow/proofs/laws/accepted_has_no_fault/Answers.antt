use Rattle.hls_flow.proofs.Faults.{accepted_has_no_fault}
use Rattle.hls_flow.proofs.laws.accepted_has_no_fault.Goals as goal

pub returns : goal.returns
returns c = accepted_has_no_fault
