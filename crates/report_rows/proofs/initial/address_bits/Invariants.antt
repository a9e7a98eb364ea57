use Rattle.std.proofs.Common.{◌≡◌, ◌+◌, ◌<◌, drop}
use Rattle.hls_base.specs.ArrayAddress.{address_bits}
use Rattle.report_rows.proofs.initial.address_bits.Given as goal

abbrev pub invariant-loop-length : goal.invariant-loop-length
invariant-loop-length l = address_bits l.dims < 32 → l.bits + address_bits (drop l.length-index l.dims) ≡ address_bits l.dims
