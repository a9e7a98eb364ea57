use Rattle.std.proofs.Common.{append_assoc, arith}
use Rattle.std.proofs.lemmas.Grind.{common_steps}
use Rattle.modulo_loop.proofs.Growing.{units_more}
use Rattle.modulo_loop.proofs.rules.add_unit_rules.Goals as goal

pub loop-order-preserved : goal.loop-order-preserved
loop-order-preserved c =
    let grown = units_more c.args.orders.now c.loop-order.order-index c.order-item.result (omega arith) in
    grind (arith, common_steps, grown, append_assoc)
