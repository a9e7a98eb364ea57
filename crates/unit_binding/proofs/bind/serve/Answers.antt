use Rattle.std.proofs.Common.{ap, arith, ◌<◌, length}
use Rattle.unit_binding.specs.Binding.{Order}
use Rattle.unit_binding.proofs.Orders.{served_inside}
use Rattle.unit_binding.proofs.bind.serve.Goals as goal

pub returns-in_ok-push : goal.returns-in_ok-push
returns-in_ok-push c =
    let within : c.args.index < length c.args.orders.now.items = omega (arith, c.if-index-len.true, c.len.ensures) in
    served_inside c.args.orders.now.items c.args.index c.args.unit c.args.request c.index_mut-order.result.now _ within c.index_mut-order.ensures.value
    (ap (λ ops. let order : Order = record { unit = c.index_mut-order.result.now.unit; occupancy = c.index_mut-order.result.now.occupancy; ops = ops } in order) c.in_ok-push.ensures.items)
