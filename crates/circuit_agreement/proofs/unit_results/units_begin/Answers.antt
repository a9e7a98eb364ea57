use Rattle.circuit_agreement.proofs.UnitResults.Stepping.{units_begin}
use Rattle.circuit_agreement.proofs.unit_results.units_begin.Goals as goal

pub returns : goal.returns
returns c = units_begin
