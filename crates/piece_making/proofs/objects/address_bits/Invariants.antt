use Rattle.std.proofs.Common.{◌≡◌, ◌+◌, ◌≤◌, drop}
use Rattle.hls_base.specs.ArrayAddress.{address_bits}
use Rattle.piece_making.proofs.objects.address_bits.Given as goal

abbrev pub invariant-loop-length : goal.invariant-loop-length
invariant-loop-length l = record {
  counted : l.bits + address_bits (drop l.length-index l.lengths.items) ≡ address_bits l.lengths.items;
  bound : l.bits ≤ 31;
}
