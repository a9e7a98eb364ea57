use Rattle.std.proofs.Common.{◌≡◌, ◌++◌, take}
use Rattle.modulo_loop.specs.Rules.{unit_rules}
use Rattle.modulo_loop.proofs.rules.add_unit_rules.Given as goal

abbrev pub invariant-loop-order : goal.invariant-loop-order
invariant-loop-order l = l.rules.items ≡ l.initial.rules.items ++ unit_rules (take l.order-index l.orders)
