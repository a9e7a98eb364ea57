use Rattle.std.proofs.Common.{◌∙◌}
use Rattle.std.proofs.lemmas.Result.{IfOk-weaker}
use Rattle.rtl_core.specs.ClockStep.{widths}
use Rattle.rtl_core.proofs.Fits.{width_is}
use Rattle.rtl_logic.specs.Making.{circuit}
use Rattle.rtl_logic.proofs.Steps.{wide, constant_as, true_made}
use Rattle.rtl_logic.proofs.operations.is_true.Goals as goal

pub returns : goal.returns
returns c = λ n sound between fits.
    let d = circuit c.args.logic.now in
    let width = c.width-bits.ensures ∙ width_is (widths d) n c.args.value fits in
    let zero = constant_as d c.width-bits.result n 0 c.constant.result width (wide n between) c.constant.ensures in
    IfOk-weaker c.differs.result _ _ (λ a made. true_made d (circuit c.differs.new.logic) n c.args.value c.constant.result a zero.0 made) (c.differs.ensures n sound fits zero.1)
