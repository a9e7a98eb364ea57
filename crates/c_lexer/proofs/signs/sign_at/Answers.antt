use Rattle.std.proofs.Common.{◌∙◌, sym, Some, None}
use Rattle.c_lexer.specs.Signs.{stands}
use Rattle.c_lexer.proofs.LongestSigns.{longest_sign, found_here, found_on, found_end}
use Rattle.c_lexer.proofs.signs.sign_at.Goals as goal

pub returns-then-stands : goal.returns-then-stands
returns-then-stands c =
    longest_sign c.args.is_first c.args.bytes.now (Some _)
    (found_here (stands c.args.is_first c.args.bytes.now) c.loop-punct.punct-index _ c.loop-punct-test.true c.loop-punct.invariant
    (sym c.stands.ensures ∙ c.if-stands.true))

pub loop-punct-preserved : goal.loop-punct-preserved
loop-punct-preserved c =
    found_on (stands c.args.is_first c.args.bytes.now) c.loop-punct.punct-index _ c.loop-punct-test.true c.loop-punct.invariant
    (sym c.stands.ensures ∙ c.if-stands.false)

pub returns : goal.returns
returns c =
    longest_sign c.args.is_first c.args.bytes.now None
    (found_end (stands c.args.is_first c.args.bytes.now) c.loop-punct.punct-index c.loop-punct-test.false c.loop-punct.invariant)
