use Rattle.rtl_logic.proofs.Folding.{none_right}
use Rattle.std.proofs.Common.{arith}
use Rattle.rtl_logic.proofs.fold.shifted_right.Goals as goal

pub returns-else-count-lt128 : goal.returns-else-count-lt128
returns-else-count-lt128 c = none_right c.args.value c.args.count c.ranges.value.fits (omega (arith, c.if-count-lt128.false))
