use Rattle.std.proofs.Common.{◌≡◌, ◌++◌, take}
use Rattle.block_schedule.specs.Constraints.{order_constraints}
use Rattle.block_schedule.proofs.order.add_order.Given as goal

abbrev pub invariant-loop-position : goal.invariant-loop-position
invariant-loop-position l =
    l.constraints.items ≡ l.initial.constraints.items ++ order_constraints l.order.occupancy (take l.position l.order.ops.items)
