use Rattle.std.proofs.Common.{◌≡◌, ◌+◌, ◌-◌, ◌^◌, ◌<◌, drop}
use Rattle.hls_base.specs.ArrayAddress.{address_bits}
use Rattle.ir_core.proofs.address.address_bits.Given as goal

abbrev pub invariant-loop-length : goal.invariant-loop-length
invariant-loop-length l = l.bits < 2 ^ 32 - 1 → l.bits + address_bits (drop l.length-index l.lengths) ≡ address_bits l.lengths
