use Rattle.circuit_agreement.proofs.Agreeing.{circuits_agree}
use Rattle.circuit_agreement.proofs.laws.circuits_agree.Goals as goal

pub returns : goal.returns
returns c = circuits_agree
