use Rattle.std.proofs.Common.{◌≡◌, map}
use Rattle.ir_layout.specs.Nodes.{node_of}
use Rattle.op_chain.specs.Subscripts.{reaching_within}
use Rattle.op_chain.proofs.subscripts.reaching_variables.Given as goal

abbrev pub invariant-loop-round : goal.invariant-loop-round
invariant-loop-round l = l.reaching.items ≡ reaching_within l.count l._round (map node_of l.nodes)
