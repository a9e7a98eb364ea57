use Rattle.std.proofs.Common.{◌≡◌, ◌++◌, take}
use Rattle.modulo_loop.specs.Rules.{next_rules}
use Rattle.modulo_loop.proofs.rules.add_next_rules.Given as goal

abbrev pub invariant-loop-position : goal.invariant-loop-position
invariant-loop-position l =
    l.rules.items ≡ l.initial.rules.items ++ next_rules l.order.occupancy (take l.position l.order.ops.items)
