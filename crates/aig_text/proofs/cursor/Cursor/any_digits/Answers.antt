use Rattle.std.proofs.Common.{◌+◌, ◌*◌, refl, arith}
use Rattle.aig_text.specs.Reading.{AnySize, Saturates, ReadsDigits}
use Rattle.aig_text.proofs.Reading.{passed}
use Rattle.aig_text.proofs.Atoms.{number_over, number_more, saturates_more, saturates_zero}
use Rattle.aig_text.proofs.cursor.Cursor.any_digits.Goals as goal

pub returns-in_err-value : goal.returns-in_err-value
returns-in_err-value c =
    passed (λ r. ReadsDigits AnySize Saturates r c.args.self.now c.any_first_digit.new.self) _ c.from_residual.ensures.1 (λ y e. e) (λ y h. h) c.in_err-value.ensures (λ k. k)

pub loop-digit-init : goal.loop-digit-init
loop-digit-init c = let r = c.in_ok-value.ensures in (c.in_ok-value.value, (omega arith, λ l. refl), r.2)

pub returns-then-value-eq0 : goal.returns-then-value-eq0
returns-then-value-eq0 c =
    let i = c.loop-digit.invariant in
    let n = c.in-Some.ensures in
    let z = saturates_zero _ _ i.1 c.if-value-eq0.true in
    λ end h. number_over AnySize end _ _ _ _ _ h tt i.2 n.1.1 n.0 (λ y p some l. omega (arith, z))

pub loop-digit-preserved : goal.loop-digit-preserved
loop-digit-preserved c =
    let i = c.loop-digit.invariant in
    let n = c.in-Some.ensures in
    let d = c.in-Some.digit in
    (i.0 * 10 + d, saturates_more _ _ _ _ i.1 c.saturated-value.ensures, number_more _ _ _ _ _ _ _ i.2 n.1.1 n.0 (omega (arith, i.1.0, c.if-value-eq0.false)) refl c.advance.ensures)

pub returns : goal.returns
returns c =
    let i = c.loop-digit.invariant in
    (i.0, i.1, tt, i.2, c.in_default.ensures)
