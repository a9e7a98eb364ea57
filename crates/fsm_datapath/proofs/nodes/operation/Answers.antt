use Rattle.std.proofs.Common.{◌<◌, ◌∙◌, length, sym, ap, subst}
use Rattle.circuit_context.proofs.Named.{operations_counted, node_of_operation}
use Rattle.fsm_datapath.proofs.nodes.operation.Goals as goal

pub node_at-requires : goal.node_at-requires
node_at-requires c = node_of_operation c.args.of.now.cfg.now.nodes.items c.args.node.0 c.args.op.0 c.requires

pub bounds-ops-op : goal.bounds-ops-op
bounds-ops-op c =
    subst (λ k. c.args.op.0 < k)
    (operations_counted c.args.of.now.cfg.now.nodes.items c.args.node.0 c.node_at.result.now c.node_at.ensures.stands ∙ ap length (sym c.ops_of-ops.ensures.own)) c.requires
