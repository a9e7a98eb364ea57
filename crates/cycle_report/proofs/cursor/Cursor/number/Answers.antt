use Rattle.std.proofs.Common.{arith}
use Rattle.cycle_report.proofs.Atoms.{digit_passed, number_over, number_more, number_found}
use Rattle.cycle_report.proofs.cursor.Cursor.number.Goals as goal

pub returns-in_err-value : goal.returns-in_err-value
returns-in_err-value c = digit_passed _ _ _ _ _ c.from_residual.ensures.1 (λ y e. e) c.in_err-value.ensures

pub returns-in-None : goal.returns-in-None
returns-in-None c =
    let i = c.loop-digit.invariant in
    let n = c.in-Some.ensures in
    number_over _ _ _ _ _ _ _ (omega (arith, c.ranges.high.fits)) i.1 i.2 i.0 n.1.1 n.0 c.in-None.ensures

pub loop-digit-preserved : goal.loop-digit-preserved
loop-digit-preserved c =
    let i = c.loop-digit.invariant in
    let n = c.in-Some.ensures in
    let m = c.in-Some-lengthened.ensures in
    (number_more _ _ _ _ _ _ _ i.0 n.1.1 n.0 m.1 m.0 (omega (arith, m.2, c.ranges.high.fits)) c.advance.ensures, omega (arith, i.1, m.0, m.1), m.2)

pub returns : goal.returns
returns c =
    let i = c.loop-digit.invariant in
    number_found _ _ _ _ _ (omega (arith, c.ranges.high.fits)) i.1 i.2 i.0 c.in_default.ensures
