use Rattle.verilog_cycle.proofs.Remainders.{shifted_out}
use Rattle.verilog_cycle.proofs.word.shifted_left.Goals as goal

pub returns-else-count-lt64 : goal.returns-else-count-lt64
returns-else-count-lt64 c = shifted_out 64 c.args.value c.args.count c.if-count-lt64.false
