use Rattle.std.proofs.Common.{◌≡◌, drop}
use Rattle.std.specs.List.{list_all}
use Rattle.program_validity.specs.Targets.{is_left_if}
use Rattle.program_validity.proofs.targets.are_left.Given as goal

abbrev pub invariant-loop-node : goal.invariant-loop-node
invariant-loop-node g l = list_all (is_left_if l.cfg) (drop l.node-index l.cfg.nodes.items) ≡ list_all (is_left_if l.cfg) l.cfg.nodes.items
