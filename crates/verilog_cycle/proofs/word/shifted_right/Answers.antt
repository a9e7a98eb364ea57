use Rattle.std.proofs.Common.{◌<◌, ◌^◌, arith}
use Rattle.verilog_cycle.proofs.Remainders.{divided_out}
use Rattle.verilog_cycle.proofs.word.shifted_right.Goals as goal

pub returns-else-count-lt64 : goal.returns-else-count-lt64
returns-else-count-lt64 c =
    let fits : c.args.value < 2 ^ 64 = omega (arith, c.ranges.value) in
    divided_out 64 c.args.value c.args.count fits c.if-count-lt64.false
