use Rattle.std.proofs.Common.{◌∙◌, sym}
use Rattle.std.proofs.lemmas.Bool.{both_ways}
use Rattle.std.proofs.lemmas.Slice.Eq.{bytes_eq-Decides}
use Rattle.verilog_syntax.proofs.Keywords.{keyword_more, keyword_all}
use Rattle.verilog_syntax.proofs.token.keyword_of.Goals as goal

pub loop-keyword-preserved : goal.loop-keyword-preserved
loop-keyword-preserved c =
    keyword_more c.loop-keyword.keyword-index c.text.result.now c.args.text.now c.loop-keyword-test.true c.text.ensures
    (λ e. both_ways _ (sym c.eq.ensures ∙ c.if-eq.false) ((bytes_eq-Decides c.text.result.now c.args.text.now).1 e)) c.loop-keyword.invariant

pub returns : goal.returns
returns c = keyword_all c.loop-keyword.keyword-index c.args.text.now c.loop-keyword-test.false c.loop-keyword.invariant
