use Rattle.std.proofs.Common.{◌≡◌, ◌++◌, drop}
use Rattle.std.specs.List.{flat_map}
use Rattle.circuit_units.specs.Units.Uses.{uses_in}
use Rattle.circuit_units.proofs.units.uses.add_uses.Given as goal

abbrev pub invariant-loop-op : goal.invariant-loop-op
invariant-loop-op l = l.uses.items ++ flat_map uses_in (drop l.op-index l.ops) ≡ l.initial.uses.items ++ flat_map uses_in l.ops
