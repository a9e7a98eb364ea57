use Rattle.std.proofs.Common.{◌≡◌, ◌++◌, drop}
use Rattle.c_expand.specs.Expansion.{variables_of}
use Rattle.c_expand.proofs.expand.variables_of.Given as goal

abbrev pub invariant-loop-home : goal.invariant-loop-home
invariant-loop-home l = l.variables.items ++ variables_of (drop l.home-index l.homes) ≡ variables_of l.homes
