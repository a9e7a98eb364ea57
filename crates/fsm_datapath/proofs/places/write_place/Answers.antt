use Rattle.std.proofs.lemmas.Result.{on_ok_weaker}
use Rattle.fsm_datapath.proofs.Listing.{logs_as}
use Rattle.fsm_datapath.proofs.Placing.{block_held, loop_stands, loop_held}
use Rattle.circuit_context.proofs.Named.{node_of_operation}
use Rattle.fsm_datapath.proofs.places.write_place.Goals as goal

pub returns-in-Plain : goal.returns-in-Plain
returns-in-Plain c = λ p names h begun computed answers.
    on_ok_weaker c.write_block_place.result
    (logs_as p names _ _ _ _ _ _ (block_held p c.args.held c.node_at.result.now c.in-Plain.field-0 (c.node_at.ensures.timed p names h) c.in-Plain.is))
    (c.write_block_place.ensures p names h begun computed answers)

pub returns-in-Looped : goal.returns-in-Looped
returns-in-Looped c = λ p names h begun computed answers.
    let loop = loop_stands p c.args.held.node.0 c.node_at.result.now c.in-Looped.field-0 (c.node_at.ensures.timed p names h) c.in-Looped.is in
    on_ok_weaker c.write_loop_place.result (logs_as p names _ _ _ _ _ _ (loop_held p c.args.held loop)) (c.write_loop_place.ensures p names h begun computed answers loop)

pub node_at-requires : goal.node_at-requires
node_at-requires c = node_of_operation c.args.of.now.cfg.now.nodes.items c.args.held.node.0 c.args.held.op.0 (c.has_operation.ensures c.if-not-has_operation.false)

pub write_block_place-requires : goal.write_block_place-requires
write_block_place-requires c = c.has_operation.ensures c.if-not-has_operation.false

pub write_loop_place-requires : goal.write_loop_place-requires
write_loop_place-requires c = c.has_operation.ensures c.if-not-has_operation.false
