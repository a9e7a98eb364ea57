use Rattle.circuit_agreement.proofs.UnitResults.Giving.{units_give}
use Rattle.circuit_agreement.proofs.unit_results.units_give.Goals as goal

pub returns : goal.returns
returns c = units_give
