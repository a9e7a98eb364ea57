use Rattle.std.proofs.Common.{append_assoc, arith}
use Rattle.std.proofs.lemmas.Grind.{common_steps}
use Rattle.block_schedule.proofs.Growing.{units_more}
use Rattle.block_schedule.proofs.order.add_orders.Goals as goal

pub loop-order-preserved : goal.loop-order-preserved
loop-order-preserved c =
    let grown = units_more c.args.orders.now c.loop-order.order-index c.order-item.result (omega arith) in
    grind (arith, common_steps, grown, append_assoc)
