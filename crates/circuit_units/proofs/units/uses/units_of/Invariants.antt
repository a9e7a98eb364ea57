use Rattle.std.proofs.Common.{take}
use Rattle.circuit_units.specs.Units.Uses.{AreUnits}
use Rattle.circuit_units.proofs.units.uses.units_of.Given as goal

abbrev pub invariant-loop-each : goal.invariant-loop-each
invariant-loop-each l = AreUnits (take l.each-index l.uses) l.units.keys
