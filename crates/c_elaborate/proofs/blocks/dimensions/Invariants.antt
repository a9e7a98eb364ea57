use Rattle.std.proofs.Common.{◌≡◌, take}
use Rattle.c_elaborate.proofs.blocks.dimensions.Given as goal

abbrev pub invariant-loop-length : goal.invariant-loop-length
invariant-loop-length l = l.all.items ≡ take l.length-index l.length-items
