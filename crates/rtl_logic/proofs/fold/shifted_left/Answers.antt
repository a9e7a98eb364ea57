use Rattle.rtl_logic.proofs.Folding.{none_left}
use Rattle.std.proofs.Common.{arith}
use Rattle.rtl_logic.proofs.fold.shifted_left.Goals as goal

pub returns-else-count-lt128 : goal.returns-else-count-lt128
returns-else-count-lt128 c = none_left c.args.value c.args.count (omega (arith, c.if-count-lt128.false))
