use Rattle.std.proofs.Common.{◌∙◌, sym, ap}
use Rattle.c_macro.proofs.Lines.{none_first_more}
use Rattle.c_macro.proofs.tokens.line_length.Goals as goal

pub loop-i-preserved : goal.loop-i-preserved
loop-i-preserved c =
    none_first_more c.args.tokens.now c.loop-i.i c.index-tokens-i.result c.loop-i-test.true
    (sym (ap (λ t. t.first) c.index-tokens-i.is) ∙ c.if-token.false) c.loop-i.invariant
