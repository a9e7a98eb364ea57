use Rattle.std.proofs.Common.{◌≡◌, ◌++◌, map, drop}
use Rattle.c_tree.specs.View.{item_of}
use Rattle.c_elaborate.specs.Programs.{signatures}
use Rattle.c_elaborate.proofs.functions.signatures.Given as goal

abbrev pub invariant-loop-item : goal.invariant-loop-item
invariant-loop-item l = l.all.items ++ signatures (map item_of (drop l.item-index l.items)) ≡ signatures (map item_of l.items)
