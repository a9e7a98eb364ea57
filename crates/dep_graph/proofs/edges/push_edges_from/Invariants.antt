use Rattle.std.proofs.Common.{◌≡◌, ◌++◌, map, drop}
use Rattle.dep_graph.specs.Meetings.{reach}
use Rattle.dep_graph.specs.Dependences.{gather, memory_edges}
use Rattle.dep_graph.proofs.edges.push_edges_from.Given as goal

abbrev pub invariant-loop-other : goal.invariant-loop-other
invariant-loop-other l =
    l.edges.items ++ gather (memory_edges (reach l.access)) (map reach (drop l.other-index l.others)) ≡ l.initial.edges.items ++ gather (memory_edges (reach l.access)) (map reach l.others)
