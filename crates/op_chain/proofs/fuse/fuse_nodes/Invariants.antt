use Rattle.std.proofs.Common.{◌≡◌, map}
use Rattle.ir_layout.specs.Nodes.{node_of}
use Rattle.op_chain.specs.Fusing.{fused_node}
use Rattle.op_chain.proofs.fuse.fuse_nodes.Given as goal

abbrev pub invariant-loop-node : goal.invariant-loop-node
invariant-loop-node l = map node_of l.done.items ≡ map (fused_node l.period l.reaching) (map node_of l.yielded)
