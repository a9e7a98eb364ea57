use Rattle.std.proofs.Common.{◌≡◌, ◌++◌, take}
use Rattle.block_schedule.specs.Constraints.{unit_constraints}
use Rattle.block_schedule.proofs.order.add_orders.Given as goal

abbrev pub invariant-loop-order : goal.invariant-loop-order
invariant-loop-order l =
    l.constraints.items ≡ l.initial.constraints.items ++ unit_constraints (take l.order-index l.orders)
