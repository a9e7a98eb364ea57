use Rattle.std.proofs.Common.{◌≡◌, ◌≤◌, ◌+◌, drop}
use Rattle.std.specs.Prelude.{min}
use Rattle.hls_base.specs.ArrayAddress.{address_bits}
use Rattle.datapath.proofs.plan_sizes.sizes.depth_log.Given as goal

abbrev pub invariant-loop-length : goal.invariant-loop-length
invariant-loop-length l = (min (l.bits + address_bits (drop l.length-index l.memory.dims.items)) 255 ≡ min (address_bits l.memory.dims.items) 255) × (l.bits ≤ 255)
