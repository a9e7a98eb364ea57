use Rattle.std.proofs.Common.{◌≡◌, ◌≤◌, ◌<◌, ◌-◌, ◌⊎◌, inl, inr, ◌∙◌, subst, sym, true, false, arith}
use Rattle.std.proofs.lemmas.Result.{IfOk-weaker}
use Rattle.rtl_core.specs.ClockStep.{widths}
use Rattle.rtl_core.proofs.Fits.{width_is}
use Rattle.rtl_logic.specs.Making.{circuit, Makes}
use Rattle.rtl_logic.proofs.Making.{appended, fits_later}
use Rattle.rtl_logic.proofs.Steps.{wide, Filled, Taken, not_below, width_taken, low_made, widened_made}
use Rattle.rtl_logic.proofs.numbers.widened.Goals as goal
use Rattle.rtl_logic.proofs.numbers.widened.Goals.{then-not-signed-via-then-not-signed, then-not-signed-via-else-not-signed+then-width-bits}

pub returns-then-not-signed : goal.returns-then-not-signed
returns-then-not-signed c = λ n from sound between bits fits taken.
    let d = circuit c.args.logic.now in
    let width = c.width-width.ensures ∙ width_is (widths d) n c.args.value fits in
    let which : (c.args.signed ≡ false) ⊎ (c.args.bits ≤ from) = elim c.then-not-signed.branch [
      | then-not-signed-via-then-not-signed w ↦ inl w.if-not-signed.true
      | then-not-signed-via-else-not-signed+then-width-bits w ↦ inr (not_below c.args.bits n from taken (omega (arith, w.if-width-bits.true, width)))
    ] in
    IfOk-weaker c.resized.result _ _ (λ a made. low_made d (circuit c.resized.new.self) c.args.signed c.args.bits from c.args.value a bits.1 which made)
    (c.resized.ensures n sound fits (wide n between) (wide c.args.bits bits))

pub returns : goal.returns
returns c = λ n from sound between bits fits taken.
    let d = circuit c.args.logic.now in
    let e = circuit c.top_bit.new.logic in
    let f = circuit c.filled.new.logic in
    let g = circuit c.join.new.self in
    let value = c.args.value in
    let sign = c.in_ok-sign.sign in
    let high = c.in_ok-high.high in
    let width = c.width-width.ensures ∙ width_is (widths d) n value fits in
    let less : n < c.args.bits = omega (arith, width, c.if-width-bits.false) in
    let same = width_taken c.args.bits n from taken less in
    let first = c.in_ok-sign.ensures n sound (wide n between) fits in
    let to_e = appended d e first.appends in
    let second = subst (λ w. Makes e f (c.args.bits - w) high (Filled (c.args.bits - w) sign)) width (c.in_ok-high.ensures first.sound (omega (arith, width, less), omega (arith, bits.1)) first.shows.fits) in
    let later = fits_later e f (appended e f second.appends) n value (fits_later d e to_e n value fits) in
    IfOk-weaker c.join.result _ _
    (λ a made. subst (λ b. Makes d g c.args.bits a (Taken b c.args.bits from value)) (sym c.if-not-signed.false)
    (subst (λ k. Makes d g c.args.bits a (Taken true c.args.bits k value)) same (widened_made d e f g c.args.bits n value sign high a between less bits.1 fits first second made)))
    (c.join.ensures (c.args.bits - n) n second.sound second.shows.fits later (omega (arith, less), omega (arith, less, bits.1)))
