use Rattle.std.proofs.Common.{◌∙◌, sym, arith, below_more}
use Rattle.c_lexer.proofs.rows.line_comment_length.Goals as goal

pub loop-n-preserved : goal.loop-n-preserved
loop-n-preserved c =
    (omega arith, below_more _ _ c.loop-n.invariant.1 (sym c.in_line_comment.ensures ∙ c.if-in_line_comment.true))
