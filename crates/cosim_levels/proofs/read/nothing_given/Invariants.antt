use Rattle.std.proofs.Common.{◌≡◌, replicate, None}
use Rattle.cosim_levels.proofs.read.nothing_given.Given as goal

abbrev pub invariant-loop : goal.invariant-loop
invariant-loop l = l.given.items ≡ replicate l.counter None
