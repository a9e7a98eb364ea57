use Rattle.std.proofs.Common.{length}
use Rattle.c_token.specs.SourceText.{start_of}
use Rattle.c_lexer.proofs.Progress.{Progress}
use Rattle.c_lexer.proofs.lex.Given as goal

abbrev pub invariant-loop-begins : goal.invariant-loop-begins
invariant-loop-begins l = Progress (start_of l.fn.source) l.cursor l.tokens.items

abbrev pub decreases-loop-begins : goal.decreases-loop-begins
decreases-loop-begins l = length l.cursor.left
