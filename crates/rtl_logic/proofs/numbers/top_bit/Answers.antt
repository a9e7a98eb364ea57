use Rattle.std.proofs.Common.{◌≡◌, ◌-◌, ◌∙◌, arith}
use Rattle.std.proofs.lemmas.Result.{IfOk-weaker}
use Rattle.rtl_core.specs.ClockStep.{widths}
use Rattle.rtl_core.proofs.Fits.{width_is}
use Rattle.rtl_logic.specs.Making.{circuit}
use Rattle.rtl_logic.proofs.Steps.{sign_made}
use Rattle.rtl_logic.proofs.numbers.top_bit.Goals as goal

pub returns : goal.returns
returns c = λ n sound between fits.
    let d = circuit c.args.logic.now in
    let top = c.saturating_sub-top.result in
    let width = c.width.ensures ∙ width_is (widths d) n c.args.value fits in
    let is : top ≡ n - 1 = omega (arith, c.saturating_sub-top.ensures, width) in
    IfOk-weaker c.part.result _ _ (λ a made. sign_made d (circuit c.part.new.self) n top c.args.value a between.0 is fits made)
    (c.part.ensures n sound fits (omega (arith, is, between.0)) (omega arith) between.1)
