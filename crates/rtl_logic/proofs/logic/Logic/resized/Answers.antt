use Rattle.std.proofs.Common.{◌≡◌, ◌<◌, ◌∙◌, ◌+◌, ◌-◌, ◌^◌, ◌%◌, ap, refl, arith}
use Rattle.std.proofs.lemmas.Result.{IfOk-weaker}
use Rattle.rtl_core.specs.declared.design.Atom.TheVariants as atom
use Rattle.rtl_core.specs.ClockStep.{widths}
use Rattle.rtl_core.proofs.Fits.{width_is}
use Rattle.rtl_logic.specs.Making.{circuit}
use Rattle.rtl_logic.proofs.Folds.{widened, narrowed, zeros_fit}
use Rattle.rtl_logic.proofs.logic.Logic.resized.Goals as goal

pub returns-then-width-bits : goal.returns-then-width-bits
returns-then-width-bits c = λ n sound h between both.
    let d = circuit c.args.self.now in
    let bits = c.args.bits in
    let high = c.constant-then-width-bits.result in
    let width = c.width-width.ensures ∙ width_is (widths d) n c.args.atom h in
    let less : n < bits = omega (arith, width, c.if-width-bits.true) in
    let is = c.constant-then-width-bits.ensures ∙ ap (λ w. atom.Constant (bits - w) (0 % 2 ^ (bits - w))) width in
    let fits = zeros_fit d bits c.width-width.result n high c.constant-then-width-bits.ensures width less both.1 in
    IfOk-weaker c.join.result _ _ (λ a made. widened d (circuit c.join.new.self) n bits (bits - n) high c.args.atom a less h refl is made)
    (c.join.ensures (bits - n) n sound fits h (omega (arith, less), omega (arith, less, both.1)))

pub returns : goal.returns
returns c = λ n sound h between both.
    let d = circuit c.args.self.now in
    let bits = c.args.bits in
    let width = c.width-width.ensures ∙ width_is (widths d) n c.args.atom h in
    let top = c.saturating_sub.ensures in
    let inside : c.saturating_sub.result < n = omega (arith, width, top, both.0, c.if-width-bits.false) in
    let size : c.saturating_sub.result + 1 - 0 ≡ bits = omega (arith, top, both.0) in
    IfOk-weaker c.part.result _ _ (λ a made. narrowed d (circuit c.part.new.self) bits c.saturating_sub.result c.args.atom a size made) (c.part.ensures n sound h inside (omega arith) between.1)
