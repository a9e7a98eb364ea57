use Rattle.std.proofs.Common.{◌≡◌, ◌+◌, length, sym, subst, rules}
use Rattle.std.specs.List.{All}
use Rattle.dep_graph.specs.Dependences.{edges_of}
use Rattle.dep_graph.specs.ForwardBodies.{IsForwardEdge}
use Rattle.dep_graph.proofs.ForwardEdges.{edges_forward}
use Rattle.dep_graph.proofs.edges.edges.Goals as goal

pub returns-clause-forward : goal.returns-clause-forward
returns-clause-forward c =
    let body = c.args.body.now in
    let same : c.push_edges_between.new.edges.items ≡ edges_of body = search rules in
    subst (All (IsForwardEdge (length body.ops.items + 1))) (sym same) (edges_forward body c.requires)
