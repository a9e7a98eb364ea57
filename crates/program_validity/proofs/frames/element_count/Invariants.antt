use Rattle.std.proofs.Common.{◌≡◌, ◌*◌, ◌^◌, ◌-◌, ◌≤◌, drop}
use Rattle.std.specs.Prelude.{min}
use Rattle.hls_base.specs.ArrayAddress.{element_count}
use Rattle.program_validity.proofs.frames.element_count.Given as goal

abbrev pub invariant-loop-length : goal.invariant-loop-length
invariant-loop-length l = (min (l.count * element_count (drop l.length-index l.dims)) (2 ^ 64 - 1) ≡ min (element_count l.dims) (2 ^ 64 - 1)) × (l.count ≤ 2 ^ 64 - 1)
