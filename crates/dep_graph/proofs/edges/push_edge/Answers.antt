use Rattle.std.proofs.Common.{sym, ap, ◌∙◌, ◌++◌, append-nil}
use Rattle.dep_graph.specs.Dependences as spec
use Rattle.dep_graph.proofs.Lists.{nth_past}
use Rattle.dep_graph.proofs.edges.push_edge.Goals as goal

pub returns-else-index-ops : goal.returns-else-index-ops
returns-else-index-ops c =
    sym (ap (λ op. c.args.edges.now.items ++ spec.edge_behind c.args.from.0 op c.args.edge.to c.args.edge.distance c.args.edge.why) (nth_past c.args.ops.now c.args.from.0 c.if-index-ops.false) ∙ append-nil c.args.edges.now.items)
