use Rattle.std.proofs.Common.{◌≡◌, take, map}
use Rattle.hls_base.specs.ArrayAddress.{subscript_bits}
use Rattle.flat_programs.proofs.memory.bank.bits_of.Given as goal

abbrev pub invariant-loop-length : goal.invariant-loop-length
invariant-loop-length l = l.bits.items ≡ map subscript_bits (take l.length-index l.lengths)
