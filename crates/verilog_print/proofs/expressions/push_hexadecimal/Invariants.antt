use Rattle.verilog_print.proofs.Hexadecimal.{AreWritten}
use Rattle.verilog_print.proofs.expressions.push_hexadecimal.Given as goal

abbrev pub invariant-loop-left : goal.invariant-loop-left
invariant-loop-left l = AreWritten l.value l.start l.left l.digits

abbrev pub decreases-loop-left : goal.decreases-loop-left
decreases-loop-left l = l.start
