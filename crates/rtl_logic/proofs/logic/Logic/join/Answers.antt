use Rattle.std.proofs.Common.{◌≡◌, ◌∙◌, ◌+◌, ◌*◌, ◌%◌, ◌^◌, ap, sym, arith}
use Rattle.std.proofs.lemmas.Result.{IfOk-weaker}
use Rattle.rtl_core.specs.declared.design.Atom.TheVariants as atom
use Rattle.rtl_core.specs.ClockStep.{widths}
use Rattle.rtl_core.proofs.Fits.{width_is}
use Rattle.rtl_logic.specs.Making.{circuit}
use Rattle.rtl_logic.proofs.Folds.{join_numbers, join_wire}
use Rattle.rtl_logic.proofs.logic.Logic.join.Goals as goal

pub returns : goal.returns
returns c = λ m k sound h l between.
    let d = circuit c.args.self.now in
    let high = c.width.ensures ∙ width_is (widths d) m c.args.high h in
    let low = c.width-low_width.ensures ∙ width_is (widths d) k c.args.low l in
    let size : c.saturating_add-bits.result ≡ m + k = omega (arith, c.saturating_add-bits.ensures, high, low, between.1) in
    join_numbers d m k c.args.high c.args.low sound h l between c.in-Some-Some.high c.in-Some-Some.low c.saturating_add-bits.result c.constant.result (sym c.constant_of.ensures ∙ c.in-Some-Some.is-0) (sym c.constant_of-2.ensures ∙ c.in-Some-Some.is-1) size
    (c.constant.ensures ∙ ap (λ w. atom.Constant c.saturating_add-bits.result ((c.in-Some-Some.high * 2 ^ w % 2 ^ 128 + c.in-Some-Some.low) % 2 ^ 128 % 2 ^ c.saturating_add-bits.result)) low)

pub returns-2 : goal.returns-2
returns-2 c = λ m k sound h l between.
    let d = circuit c.args.self.now in
    let high = c.width.ensures ∙ width_is (widths d) m c.args.high h in
    let low = c.width-low_width.ensures ∙ width_is (widths d) k c.args.low l in
    let size : c.saturating_add-bits.result ≡ m + k = omega (arith, c.saturating_add-bits.ensures, high, low, between.1) in
    IfOk-weaker c.wire.result _ _ (λ a adds. join_wire d m k c.args.high c.args.low sound h l between (circuit c.wire.new.self) c.saturating_add-bits.result a size adds) c.wire.ensures
