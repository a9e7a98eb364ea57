use Rattle.std.proofs.Common.{◌≡◌, take}
use Rattle.datapath.proofs.plan_sizes.words.lengths_of.Given as goal

abbrev pub invariant-loop-length : goal.invariant-loop-length
invariant-loop-length l = l.lengths.items ≡ take l.length-index l.dims
