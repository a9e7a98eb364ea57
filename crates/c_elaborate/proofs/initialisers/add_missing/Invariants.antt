use Rattle.std.proofs.Common.{◌≡◌, ◌++◌, replicate, None}
use Rattle.c_elaborate.specs.Items.{trees_in}
use Rattle.c_elaborate.proofs.initialisers.add_missing.Given as goal

abbrev pub invariant-loop-k : goal.invariant-loop-k
invariant-loop-k l = trees_in l.items.items ≡ trees_in l.initial.items.items ++ replicate l.k None
