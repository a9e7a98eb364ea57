use Rattle.std.proofs.Common.{◌≡◌, ◌++◌, take}
use Rattle.modulo_loop.specs.Rules.{store_rules_from, latency_of}
use Rattle.modulo_loop.proofs.rules.add_store_rules.Given as goal

abbrev pub invariant-loop-number : goal.invariant-loop-number
invariant-loop-number l =
    l.rules.items ≡ l.initial.rules.items ++ store_rules_from l.test.0 (latency_of l.ops l.test) 0 (take l.number l.ops)
