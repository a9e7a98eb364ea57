use Rattle.verilog_cycle.proofs.Remainders.{shifted_out}
use Rattle.verilog_cycle.proofs.arithmetic.shifted_left.Goals as goal

pub returns-else-count-lt128 : goal.returns-else-count-lt128
returns-else-count-lt128 c = shifted_out 128 c.args.value c.args.count c.if-count-lt128.false
