use Rattle.circuit_agreement.proofs.Stepping.{runs_step}
use Rattle.circuit_agreement.proofs.laws.runs_step.Goals as goal

pub returns : goal.returns
returns c = runs_step
