use Rattle.std.proofs.Common.{◌≡◌, ◌++◌, drop}
use Rattle.std.specs.List.{flat_map}
use Rattle.circuit_units.specs.Units.Uses.{node_uses, all_uses}
use Rattle.circuit_units.proofs.units.uses.uses_of.Given as goal

abbrev pub invariant-loop-node : goal.invariant-loop-node
invariant-loop-node l = l.uses.items ++ flat_map node_uses (drop l.node-index l.cfg.nodes.items) ≡ all_uses l.cfg
