use Rattle.std.proofs.Common.{◌≡◌, ◌+◌, ◌≤◌, drop}
use Rattle.hls_base.specs.ArrayAddress.{address_bits}
use Rattle.program_validity.proofs.frames.are_addressed.Given as goal

abbrev pub invariant-loop-length : goal.invariant-loop-length
invariant-loop-length l = (l.bits + address_bits (drop l.length-index l.dims) ≡ address_bits l.dims) × (l.bits ≤ 16)
