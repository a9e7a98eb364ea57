use Rattle.std.proofs.Common.{◌≡◌, take}
use Rattle.unit_binding.specs.Times.{edge_constraints}
use Rattle.block_schedule.proofs.order.edges_within.Given as goal

abbrev pub invariant-loop-edge : goal.invariant-loop-edge
invariant-loop-edge l = l.constraints.items ≡ edge_constraints (take l.edge-index l.edges)
