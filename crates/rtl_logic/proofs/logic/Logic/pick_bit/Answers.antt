use Rattle.std.proofs.Common.{◌∙◌, sym, arith}
use Rattle.std.proofs.lemmas.Result.{IfOk-weaker}
use Rattle.rtl_logic.specs.Making.{circuit}
use Rattle.rtl_logic.proofs.Making.{appended, fits_later}
use Rattle.rtl_logic.proofs.Showing.{pick_one_one, pick_other_zero, pick_one_zero, pick_other_one, pick_wire}
use Rattle.rtl_logic.proofs.logic.Logic.pick_bit.Goals as goal

pub returns-then-is_number : goal.returns-then-is_number
returns-then-is_number c = λ sound t f g.
    IfOk-weaker c.or.result _ _ (λ a made. pick_one_one (circuit c.args.self.now) (circuit c.or.new.self) c.args.test c.args.one c.args.other a t f g (sym c.is_number.ensures ∙ c.if-is_number.true) made) (c.or.ensures sound t g)

pub returns-then-is_number-2 : goal.returns-then-is_number-2
returns-then-is_number-2 c = λ sound t f g.
    IfOk-weaker c.and.result _ _ (λ a made. pick_other_zero (circuit c.args.self.now) (circuit c.and.new.self) c.args.test c.args.one c.args.other a t f g (sym c.is_number-2.ensures ∙ c.if-is_number-2.true) made) (c.and.ensures sound t f)

pub returns-then-is_number-3 : goal.returns-then-is_number-3
returns-then-is_number-3 c = λ sound t f g.
    let d = circuit c.args.self.now in
    let e = circuit c.not.new.self in
    let first = c.in_ok-against.ensures 1 sound (omega arith, omega arith) t in
    let later = fits_later d e (appended d e first.appends) in
    IfOk-weaker c.and-then-is_number-3.result _ _
    (λ a made. pick_one_zero d e (circuit c.and-then-is_number-3.new.self) c.args.test c.args.one c.args.other c.in_ok-against.against a t f g (sym c.is_number-3.ensures ∙ c.if-is_number-3.true) first made)
    (c.and-then-is_number-3.ensures first.sound first.shows.fits (later 1 c.args.other g))

pub returns-then-is_number-4 : goal.returns-then-is_number-4
returns-then-is_number-4 c = λ sound t f g.
    let d = circuit c.args.self.now in
    let e = circuit c.not-then-is_number-4.new.self in
    let first = c.in_ok-against-2.ensures 1 sound (omega arith, omega arith) t in
    let later = fits_later d e (appended d e first.appends) in
    IfOk-weaker c.or-then-is_number-4.result _ _
    (λ a made. pick_other_one d e (circuit c.or-then-is_number-4.new.self) c.args.test c.args.one c.args.other c.in_ok-against-2.against a t f g (sym c.is_number-4.ensures ∙ c.if-is_number-4.true) first made)
    (c.or-then-is_number-4.ensures first.sound first.shows.fits (later 1 c.args.one f))

pub returns : goal.returns
returns c = λ sound t f g.
    IfOk-weaker c.wire.result _ _ (λ a adds. pick_wire (circuit c.args.self.now) 1 c.args.test c.args.one c.args.other sound t f g (circuit c.wire.new.self) a (omega arith, omega arith) adds) c.wire.ensures
