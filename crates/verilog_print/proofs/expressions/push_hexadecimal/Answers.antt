use Rattle.std.proofs.Common.{refl, rules, replicate}
use Rattle.verilog_print.proofs.Hexadecimal.{written_first, written_more}
use Rattle.verilog_print.proofs.expressions.push_hexadecimal.Goals as goal

pub loop-left-init : goal.loop-left-init
loop-left-init c = written_first c.args.value c.hexadecimal_digit.result (replicate 32 0) (search rules) refl c.hexadecimal_digit.ensures

pub loop-left-preserved : goal.loop-left-preserved
loop-left-preserved c = written_more c.args.value c.loop-left.start c.loop-left.left c.hexadecimal_digit-in-loop-left.result c.loop-left.digits c.loop-left.invariant c.loop-left-test.true c.hexadecimal_digit-in-loop-left.ensures
