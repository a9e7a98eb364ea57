use Rattle.std.proofs.Common.{◌≡◌, ◌++◌, drop}
use Rattle.dep_graph.specs.Dependences.{op_edges}
use Rattle.dep_graph.proofs.edges.push_op_edges.Given as goal

abbrev pub invariant-loop-number : goal.invariant-loop-number
invariant-loop-number l =
    l.edges.items ++ op_edges l.body l.number (drop l.number l.body.ops.items) ≡ l.initial.edges.items ++ op_edges l.body 0 l.body.ops.items
