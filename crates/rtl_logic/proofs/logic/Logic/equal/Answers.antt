use Rattle.std.proofs.Common.{◌∙◌, sym, refl, subst, arith}
use Rattle.std.proofs.lemmas.Result.{IfOk-weaker}
use Rattle.rtl_core.specs.ClockStep.{widths}
use Rattle.rtl_core.specs.Valid.{HasBits}
use Rattle.rtl_core.proofs.Fits.{width_is}
use Rattle.rtl_logic.specs.Making.{circuit}
use Rattle.rtl_logic.proofs.Showing.{equal_one, equal_zero}
use Rattle.rtl_logic.proofs.logic.Logic.equal.Goals as goal

pub returns-then-is_number : goal.returns-then-is_number
returns-then-is_number c = λ n sound l r.
    let d = circuit c.args.self.now in
    let one = sym (width_is (widths d) n c.args.left l) ∙ (sym c.width.ensures ∙ c.if-width-eq1.true) in
    equal_one d c.args.left c.args.right sound (subst (λ m. HasBits (widths d) m c.args.left) one l) (sym c.is_number.ensures ∙ c.if-is_number.true)

pub returns-then-is_number-2 : goal.returns-then-is_number-2
returns-then-is_number-2 c = λ n sound l r.
    let d = circuit c.args.self.now in
    let one = sym (width_is (widths d) n c.args.left l) ∙ (sym c.width-2.ensures ∙ c.if-width-eq1-2.true) in
    let bit = subst (λ m. HasBits (widths d) m c.args.left) one l in
    IfOk-weaker c.not.result _ _ (λ a made. equal_zero d c.args.left c.args.right sound (circuit c.not.new.self) a bit (sym c.is_number-then-width-eq1-2.ensures ∙ c.if-is_number-2.true) made) (c.not.ensures 1 sound (omega arith, omega arith) bit)

pub returns : goal.returns
returns c = λ n sound l r. IfOk-weaker c.two.result _ _ (λ a made. made) (c.two.ensures sound (omega arith, omega arith) (refl, (n, l, r)))
