use Rattle.std.proofs.Common.{subst, sym}
use Rattle.std.proofs.lemmas.Result.{IfOk-weaker}
use Rattle.rtl_core.specs.ClockStep.{widths}
use Rattle.rtl_core.specs.Valid.{HasBits, OperandsFit}
use Rattle.rtl_logic.specs.Making.{circuit}
use Rattle.rtl_logic.proofs.Steps.{wide, simple_fit, simple_made}
use Rattle.rtl_logic.proofs.operations.simple.Goals as goal

pub returns : goal.returns
returns c = λ sound between l r.
    let d = circuit c.args.logic.now in
    let n = c.args.bits in
    let fit = subst (λ op. OperandsFit op n (λ m. HasBits (widths d) m c.args.left) (λ m. HasBits (widths d) m c.args.right)) (sym c.simple_pair.ensures)
    (simple_fit c.args.kind n (λ m. HasBits (widths d) m c.args.left) (λ m. HasBits (widths d) m c.args.right) l r) in
    IfOk-weaker c.two.result _ _ (λ a made. simple_made d (circuit c.two.new.self) c.args.kind n c.simple_pair.result c.args.left c.args.right a c.simple_pair.ensures between l r made) (c.two.ensures sound (wide n between) fit)
