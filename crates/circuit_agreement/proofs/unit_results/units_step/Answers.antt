use Rattle.circuit_agreement.proofs.UnitResults.Stepping.{units_step}
use Rattle.circuit_agreement.proofs.unit_results.units_step.Goals as goal

pub returns : goal.returns
returns c = units_step
