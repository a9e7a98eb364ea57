use Rattle.std.proofs.Common.{◌≡◌, ◌<◌, ◌||◌, ℕ, false, length, map, drop, get_or}
use Rattle.std.specs.List.{list_any}
use Rattle.ir_layout.specs.Nodes.{node_of}
use Rattle.op_chain.specs.Reads.{is_variable}
use Rattle.op_chain.specs.Subscripts.{nodes_hand}
use Rattle.op_chain.proofs.subscripts.hand_nodes.Given as goal

abbrev pub invariant-loop-node : goal.invariant-loop-node
invariant-loop-node l = (v : ℕ) → v < length l.initial.variables
    → (list_any (is_variable v) (nodes_hand l.reaching (map node_of (drop l.node-index l.nodes))) || get_or l.variables v false)
    ≡ (list_any (is_variable v) (nodes_hand l.reaching (map node_of l.nodes)) || get_or l.initial.variables v false)
