use Rattle.std.proofs.Common.{◌≡◌, drop}
use Rattle.circuit_units.specs.Units.Uses.{has_signed}
use Rattle.circuit_units.proofs.units.uses.has_signs.Given as goal

abbrev pub invariant-loop-each : goal.invariant-loop-each
invariant-loop-each l = has_signed l.unit (drop l.each-index l.uses) ≡ has_signed l.unit l.uses
