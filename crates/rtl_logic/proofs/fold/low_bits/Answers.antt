use Rattle.rtl_logic.proofs.Folding.{wide_enough}
use Rattle.std.proofs.Common.{arith}
use Rattle.rtl_logic.proofs.fold.low_bits.Goals as goal

pub returns-else-bits-lt128 : goal.returns-else-bits-lt128
returns-else-bits-lt128 c = wide_enough c.args.bits c.args.value (omega (arith, c.ranges.value.fits)) (omega (arith, c.if-bits-lt128.false))
