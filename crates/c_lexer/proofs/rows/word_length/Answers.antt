use Rattle.std.proofs.Common.{◌∙◌, sym, arith, below_more}
use Rattle.c_lexer.proofs.rows.word_length.Goals as goal

pub loop-n-preserved : goal.loop-n-preserved
loop-n-preserved c =
    (omega arith, below_more _ _ c.loop-n.invariant.1 (sym c.in_word.ensures ∙ c.if-in_word.true))
