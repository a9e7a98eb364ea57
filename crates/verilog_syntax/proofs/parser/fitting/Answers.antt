use Rattle.std.proofs.Common.{inl, inr, ◌∙◌, sym}
use Rattle.std.proofs.lemmas.Bool.{false≢true}
use Rattle.verilog_syntax.specs.Parsing.{tokens_in}
use Rattle.verilog_syntax.proofs.Forms.{common_more, common_stops, common_ends, common_begins}
use Rattle.verilog_syntax.proofs.parser.fitting.Goals as goal

pub loop-n-init : goal.loop-n-init
loop-n-init c = common_begins c.args.classes.now (tokens_in c.args.tokens.now)

pub loop-n-preserved : goal.loop-n-preserved
loop-n-preserved c =
    common_more c.args.classes.now c.args.tokens.now c.loop-n.n _ _ c.loop-n-test.true c.if-n-tokens.true (c.fits.ensures.0 c.if-fits.true) c.loop-n.invariant

pub returns-else-fits : goal.returns-else-fits
returns-else-fits c =
    common_stops c.args.classes.now c.args.tokens.now c.loop-n.n _ _ c.loop-n-test.true c.if-n-tokens.true (λ h. false≢true (sym c.if-fits.false ∙ c.fits.ensures.1 h)) c.loop-n.invariant

pub returns-else-n-tokens : goal.returns-else-n-tokens
returns-else-n-tokens c = common_ends c.args.classes.now c.args.tokens.now c.loop-n.n (inr c.if-n-tokens.false) c.loop-n.invariant

pub returns-after-loop-n : goal.returns-after-loop-n
returns-after-loop-n c = common_ends c.args.classes.now c.args.tokens.now c.loop-n.n (inl c.loop-n-test.false) c.loop-n.invariant
