use Rattle.std.proofs.Common.{ap}
use Rattle.std.proofs.lemmas.Result.{IfOk-weaker}
use Rattle.rtl_core.specs.ClockStep.{seen}
use Rattle.rtl_logic.specs.Making.{circuit}
use Rattle.rtl_logic.proofs.Making.{appended, goes_on, fits_later}
use Rattle.rtl_logic.proofs.Steps.{wide, known_shifted, turned_shifted}
use Rattle.rtl_logic.proofs.numbers.shifted_signed.Goals as goal

pub returns-in-Constant : goal.returns-in-Constant
returns-in-Constant c = λ n sound between fits count.
    let d = circuit c.args.logic.now in
    let e = circuit c.top_bit.new.logic in
    let first = c.in_ok-sign.ensures c.args.bits sound (wide c.args.bits between) fits in
    let later = fits_later d e (appended d e first.appends) c.args.bits c.args.value fits in
    IfOk-weaker c.shifted_by_constant.result _ _
    (λ a made. known_shifted d e (circuit c.shifted_by_constant.new.logic) c.args.bits c.in-Constant.count c.args.value c.args.count c.in_ok-sign.sign a first made (λ x s pins. ap (seen x s pins) c.in-Constant.is))
    (c.shifted_by_constant.ensures first.sound between later first.shows)

pub returns : goal.returns
returns c = λ m sound between fits count.
    let d = circuit c.args.logic.now in
    let e = circuit c.top_bit.new.logic in
    let f = circuit c.filled.new.logic in
    let g = circuit c.two.new.self in
    let i = circuit c.two-2.new.self in
    let n = c.args.bits in
    let value = c.args.value in
    let mask = c.in_ok-mask.mask in
    let bits = wide n between in
    let first = c.in_ok-sign.ensures n sound bits fits in
    let to_e = appended d e first.appends in
    let second = c.in_ok-mask.ensures first.sound bits first.shows.fits in
    let to_f = goes_on d e f to_e (appended e f second.appends) in
    let third = c.in_ok-turned.ensures second.sound bits (fits_later d f to_f n value fits, second.shows.fits) in
    let from_f = appended f g third.appends in
    let fourth = c.in_ok-moved.ensures third.sound bits (third.shows.fits, (m, fits_later d g (goes_on d f g to_f from_f) m c.args.count count)) in
    let to_i = goes_on f g i from_f (appended g i fourth.appends) in
    IfOk-weaker c.two-3.result _ _
    (λ a made. turned_shifted d n value c.args.count between.1 fits e f g i (circuit c.two-3.new.self) c.in_ok-sign.sign mask c.in_ok-turned.turned c.in_ok-moved.moved a first second third fourth made)
    (c.two-3.ensures fourth.sound bits (fourth.shows.fits, fits_later f i to_i n mask second.shows.fits))
