use Rattle.std.proofs.Common.{◌≡◌, ◌++◌, map, drop}
use Rattle.dep_graph.specs.Meetings.{reach}
use Rattle.dep_graph.specs.Dependences.{gather, memory_edges, edges_of_reaches}
use Rattle.dep_graph.proofs.edges.push_edges_between.Given as goal

abbrev pub invariant-loop-access : goal.invariant-loop-access
invariant-loop-access l =
    l.edges.items ++ gather (λ from. gather (memory_edges from) (map reach l.accesses)) (map reach (drop l.access-index l.accesses)) ≡ l.initial.edges.items ++ edges_of_reaches (map reach l.accesses)
