use Rattle.std.proofs.Common.{◌<◌, ◌^◌, arith}
use Rattle.verilog_cycle.proofs.Remainders.{divided_out}
use Rattle.verilog_cycle.proofs.arithmetic.shifted_right.Goals as goal

pub returns-else-count-lt128 : goal.returns-else-count-lt128
returns-else-count-lt128 c =
    let fits : c.args.value < 2 ^ 128 = omega (arith, c.ranges.value) in
    divided_out 128 c.args.value c.args.count fits c.if-count-lt128.false
