use Rattle.std.proofs.Common.{◌<◌, ◌∙◌, length, sym, ap, subst}
use Rattle.std.proofs.lemmas.Bool.{ltb-true}
use Rattle.circuit_context.proofs.Named.{operations_counted}
use Rattle.fsm_datapath.proofs.nodes.has_operation.Goals as goal

pub returns : goal.returns
returns c = λ less.
    subst (λ k. c.args.op.0 < k)
    (sym (operations_counted c.args.of.now.cfg.now.nodes.items c.args.node.0 c.node_at.result.now c.node_at.ensures.stands ∙ ap length (sym c.ops_of-ops.ensures.own))) (ltb-true _ _ less)
