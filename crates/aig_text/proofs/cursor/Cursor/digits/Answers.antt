use Rattle.std.proofs.Common.{◌≡◌, refl}
use Rattle.aig_text.specs.Reading.{AtMost, ReadsDigits}
use Rattle.aig_text.proofs.Reading.{passed}
use Rattle.aig_text.proofs.Atoms.{number_over, number_more, over_high}
use Rattle.aig_text.proofs.cursor.Cursor.digits.Goals as goal

pub returns-in_err-value : goal.returns-in_err-value
returns-in_err-value c =
    passed (λ r. ReadsDigits (AtMost c.args.high) (λ v n. v ≡ n) r c.args.self.now c.first_digit.new.self) _ c.from_residual.ensures.1 (λ y e. e) (λ y h. h) c.in_err-value.ensures (λ k. k)

pub loop-digit-init : goal.loop-digit-init
loop-digit-init c = let r = c.in_ok-value.ensures in (r.2, r.1)

pub returns-in-None : goal.returns-in-None
returns-in-None c =
    let i = c.loop-digit.invariant in
    let n = c.in-Some.ensures in
    λ end h. number_over (AtMost c.args.high) end _ _ _ _ _ h i.1 i.0 n.1.1 n.0 (λ y p some l. over_high _ _ _ y c.in-None.ensures p some l)

pub loop-digit-preserved : goal.loop-digit-preserved
loop-digit-preserved c =
    let i = c.loop-digit.invariant in
    let n = c.in-Some.ensures in
    let m = c.in-Some-lengthened.ensures in
    (number_more _ _ _ _ _ _ _ i.0 n.1.1 n.0 m.1 m.0 c.advance.ensures, m.2)

pub returns : goal.returns
returns c =
    let i = c.loop-digit.invariant in
    (c.loop-digit.value, refl, i.1, i.0, c.in_default.ensures)
