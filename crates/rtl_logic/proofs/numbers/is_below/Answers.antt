use Rattle.std.proofs.Common.{subst, sym, refl, arith}
use Rattle.std.proofs.lemmas.Result.{IfOk-weaker}
use Rattle.rtl_logic.specs.Making.{circuit, Makes}
use Rattle.rtl_logic.proofs.Making.{appended, fits_later}
use Rattle.rtl_logic.proofs.Steps.{wide, highest_fits, Below, below_made, signed_below}
use Rattle.rtl_logic.proofs.numbers.is_below.Goals as goal

pub returns-then-not-signed : goal.returns-then-not-signed
returns-then-not-signed c = λ sound between l r.
    IfOk-weaker c.two.result _ _ (λ a made. below_made (circuit c.args.logic.now) (circuit c.two.new.self) c.args.signed c.args.bits c.args.left c.args.right a c.if-not-signed.true made)
    (c.two.ensures sound (omega arith, omega arith) (refl, (c.args.bits, l, r)))

pub returns : goal.returns
returns c = λ sound between l r.
    let d = circuit c.args.logic.now in
    let e = circuit c.two-2.new.self in
    let f = circuit c.two-3.new.self in
    let n = c.args.bits in
    let top = c.highest-top.result in
    let is = c.highest-top.ensures between in
    let first = c.in_ok-left.ensures sound (wide n between) (l, highest_fits d n top between is) in
    let to_e = appended d e first.appends in
    let second = c.in_ok-right.ensures first.sound (wide n between) (fits_later d e to_e n c.args.right r, highest_fits e n top between is) in
    let one = fits_later e f (appended e f second.appends) n c.in_ok-left.left first.shows.fits in
    IfOk-weaker c.two-4.result _ _
    (λ a made. subst (λ b. Makes d (circuit c.two-4.new.self) 1 a (Below b n c.args.left c.args.right)) (sym c.if-not-signed.false)
    (signed_below d n c.args.left c.args.right top between l r is e f (circuit c.two-4.new.self) c.in_ok-left.left c.in_ok-right.right a first second made))
    (c.two-4.ensures second.sound (omega arith, omega arith) (refl, (n, one, second.shows.fits)))
