use Rattle.std.proofs.Common.{◌≡◌, map, take}
use Rattle.modulo_loop.specs.Rules.{at_interval}
use Rattle.modulo_loop.proofs.tight.constraints_at.Given as goal

abbrev pub invariant-loop-rule : goal.invariant-loop-rule
invariant-loop-rule l = l.constraints.items ≡ map (at_interval l.ii) (take l.rule-index l.rules)
