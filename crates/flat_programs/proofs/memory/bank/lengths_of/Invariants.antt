use Rattle.std.proofs.Common.{◌≡◌, take}
use Rattle.flat_programs.proofs.memory.bank.lengths_of.Given as goal

abbrev pub invariant-loop-length : goal.invariant-loop-length
invariant-loop-length l = l.lengths.items ≡ take l.length-index l.dims
