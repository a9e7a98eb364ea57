use Rattle.std.proofs.Common.{length}
use Rattle.verilog_syntax.proofs.Progress.{Progress}
use Rattle.verilog_syntax.proofs.lexer.lex.Given as goal

abbrev pub invariant-loop-left : goal.invariant-loop-left
invariant-loop-left l = Progress l.fn.bytes l.tokens.items l.left l.place

abbrev pub decreases-loop-left : goal.decreases-loop-left
decreases-loop-left l = length l.left
