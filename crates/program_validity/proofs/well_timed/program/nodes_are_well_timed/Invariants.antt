use Rattle.std.proofs.Common.{◌≡◌, drop}
use Rattle.std.specs.List.{list_all}
use Rattle.program_validity.specs.Nodes.{node_in_time}
use Rattle.program_validity.proofs.well_timed.program.nodes_are_well_timed.Given as goal

abbrev pub invariant-loop-node : goal.invariant-loop-node
invariant-loop-node l = list_all (node_in_time l.memories) (drop l.node-index l.nodes) ≡ list_all (node_in_time l.memories) l.nodes
