use Rattle.std.proofs.Common.{◌≡◌, drop}
use Rattle.std.specs.List.{list_all}
use Rattle.std.specs.Prelude.{length}
use Rattle.program_validity.specs.Programs.{is_valid_node}
use Rattle.program_validity.proofs.program.are_nodes.Given as goal

abbrev pub invariant-loop-node : goal.invariant-loop-node
invariant-loop-node g l = list_all (is_valid_node l.cfg.frame (length l.cfg.nodes.items)) (drop l.node-index l.cfg.nodes.items) ≡ list_all (is_valid_node l.cfg.frame (length l.cfg.nodes.items)) l.cfg.nodes.items
