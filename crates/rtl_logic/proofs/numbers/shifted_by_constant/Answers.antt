use Rattle.std.proofs.Common.{◌≡◌, ◌<◌, ◌-◌, ◌+◌, arith}
use Rattle.std.proofs.lemmas.Result.{IfOk-weaker}
use Rattle.rtl_logic.specs.Making.{circuit}
use Rattle.rtl_logic.proofs.Making.{appended, fits_later}
use Rattle.rtl_logic.proofs.Steps.{wide, not_shifted, all_shifted, some_shifted}
use Rattle.rtl_logic.proofs.numbers.shifted_by_constant.Goals as goal

pub returns-then-count-eq0 : goal.returns-then-count-eq0
returns-then-count-eq0 c = λ sound between fits shows. not_shifted (circuit c.args.logic.now) c.args.bits c.args.count c.args.value between.1 sound fits c.if-count-eq0.true

pub returns-then-count-bits : goal.returns-then-count-bits
returns-then-count-bits c = λ sound between fits shows.
    let d = circuit c.args.logic.now in
    IfOk-weaker c.filled.result _ _ (λ a made. all_shifted d c.args.bits c.args.count c.args.value c.args.sign between.1 fits shows (circuit c.filled.new.logic) a c.if-count-bits.true made)
    (c.filled.ensures sound (wide c.args.bits between) shows.fits)

pub returns : goal.returns
returns c = λ sound between fits shows.
    let d = circuit c.args.logic.now in
    let e = circuit c.filled-2.new.logic in
    let f = circuit c.part.new.self in
    let n = c.args.bits in
    let k = c.args.count in
    let top = c.saturating_sub.result in
    let within : k < n = omega (arith, c.if-count-bits.false) in
    let is : top ≡ n - 1 = omega (arith, c.saturating_sub.ensures) in
    let rest : top + 1 - k ≡ n - k = omega (arith, is, between.0) in
    let first = c.in_ok-high.ensures sound (omega (arith, c.if-count-eq0.false), omega (arith, within, between.1)) shows.fits in
    let second = c.in_ok-low.ensures n first.sound (fits_later d e (appended d e first.appends) n c.args.value fits) (omega (arith, is, between.0)) (omega (arith, is, within)) (omega (arith, between.1)) in
    let high = fits_later e f (appended e f second.appends) k c.in_ok-high.high first.shows.fits in
    IfOk-weaker c.join.result _ _ (λ a made. some_shifted d n k c.args.value c.args.sign between.1 fits shows e f (circuit c.join.new.self) (top + 1 - k) c.in_ok-high.high c.in_ok-low.low a (omega (arith, within)) rest first second made)
    (c.join.ensures k (top + 1 - k) second.sound high second.shows.fits (omega (arith, rest, within), omega (arith, rest, within, between.1)))
