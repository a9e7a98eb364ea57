use Rattle.std.proofs.Common.{append_assoc, arith}
use Rattle.std.proofs.lemmas.Grind.{common_steps}
use Rattle.block_schedule.proofs.Growing.{order_more}
use Rattle.block_schedule.proofs.order.add_order.Goals as goal

pub loop-position-preserved : goal.loop-position-preserved
loop-position-preserved c =
    let grown = order_more c.args.order.now.occupancy c.args.order.now.ops.items c.loop-position.position (omega arith) (omega arith) in
    grind (arith, common_steps, grown, append_assoc)
