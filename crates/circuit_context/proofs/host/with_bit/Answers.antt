use Rattle.std.proofs.Common.{◌≡◌, ◌+◌, ◌-◌, subst, arith}
use Rattle.std.proofs.lemmas.Result.{IfOk-weaker}
use Rattle.rtl_core.specs.ClockStep.{widths}
use Rattle.rtl_core.specs.Valid.{HasBits}
use Rattle.rtl_logic.specs.Making.{circuit}
use Rattle.rtl_logic.proofs.Making.{appended, fits_later}
use Rattle.circuit_context.proofs.Halving.{words_later}
use Rattle.circuit_context.proofs.Choosing.{more_known}
use Rattle.circuit_context.proofs.host.with_bit.Goals as goal

pub returns : goal.returns
returns c = λ p names d n carries low short level.
    let e = circuit c.args.logic.now in
    let f = circuit c.part.new.self in
    let test = c.in_ok-test.test in
    let made = c.in_ok-test.ensures n level.begun.sound carries.fits low (omega arith) short in
    let one : c.args.bit + 1 - c.args.bit ≡ 1 = omega arith in
    IfOk-weaker c.halved.result _ _ (λ half halves. more_known p names d e f (circuit c.halved.new.logic) n c.args.bit c.args.named test c.args.level.now half.items carries level made halves)
    (c.halved.ensures made.sound (subst (λ k. HasBits (widths f) k test) one made.shows.fits) (words_later e f c.args.level.now (λ a is. fits_later e f (appended e f made.appends) 64 a is) level.fits))
