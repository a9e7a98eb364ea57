use Rattle.std.proofs.lemmas.Result.{IfOk-weaker}
use Rattle.rtl_logic.specs.Making.{circuit}
use Rattle.rtl_logic.proofs.Making.{appended, fits_later}
use Rattle.rtl_logic.proofs.Steps.{fused_left, fused_right}
use Rattle.rtl_logic.proofs.operations.fused.Goals as goal

pub returns-then-pairing : goal.returns-then-pairing
returns-then-pairing c = λ sound between f g h.
    let d = circuit c.args.logic.now in
    let e = circuit c.simple.new.logic in
    let n = c.args.bits in
    let of = c.args.of in
    let first = c.in_ok-inner.ensures sound between f g in
    IfOk-weaker c.simple-then-pairing.result _ _
    (λ a made. fused_left d e (circuit c.simple-then-pairing.new.logic) c.args.pairing n of.first of.second of.third c.in_ok-inner.inner a first c.if-pairing.true made)
    (c.simple-then-pairing.ensures first.sound between first.shows.fits (fits_later d e (appended d e first.appends) n of.third h))

pub returns-else-pairing : goal.returns-else-pairing
returns-else-pairing c = λ sound between f g h.
    let d = circuit c.args.logic.now in
    let e = circuit c.simple.new.logic in
    let n = c.args.bits in
    let of = c.args.of in
    let first = c.in_ok-inner.ensures sound between f g in
    IfOk-weaker c.simple-else-pairing.result _ _
    (λ a made. fused_right d e (circuit c.simple-else-pairing.new.logic) c.args.pairing n of.first of.second of.third c.in_ok-inner.inner a first c.if-pairing.false made)
    (c.simple-else-pairing.ensures first.sound between (fits_later d e (appended d e first.appends) n of.third h) first.shows.fits)
