use Rattle.std.proofs.Common.{arith}
use Rattle.verilog_syntax.proofs.Values.{value_more}
use Rattle.verilog_syntax.proofs.number.number_value.Goals as goal

pub loop-digit-preserved : goal.loop-digit-preserved
loop-digit-preserved c =
    let e = value_more 10 c.args.digits.now c.loop-digit.digit-index c.loop-digit-test.true in
    omega (arith, e, c.loop-digit.invariant, c.min-value.ensures, c.digit_value.ensures)
