use Rattle.std.proofs.Common.{◌≡◌, ◌++◌, drop}
use Rattle.dep_graph.specs.Dependences.{gather, data_edge}
use Rattle.dep_graph.proofs.edges.push_edges_to.Given as goal

abbrev pub invariant-loop-operand : goal.invariant-loop-operand
invariant-loop-operand l =
    l.edges.items ++ gather (data_edge l.body l.to) (drop l.operand-index l.operands) ≡ l.initial.edges.items ++ gather (data_edge l.body l.to) l.operands
