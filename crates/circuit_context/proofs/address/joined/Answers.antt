use Rattle.std.proofs.Common.{◌+◌, ◌∙◌, subst}
use Rattle.std.proofs.lemmas.Result.{IfOk-weaker}
use Rattle.rtl_core.specs.ClockStep.{widths}
use Rattle.rtl_core.specs.Valid.{IsBetween}
use Rattle.rtl_core.proofs.Fits.{width_is}
use Rattle.rtl_logic.specs.Making.{circuit}
use Rattle.datapath.specs.CircuitWires.Carrying.{Carries}
use Rattle.circuit_context.specs.Contexts.{MayCarry}
use Rattle.circuit_context.proofs.Addresses.{first_number, next_number, within}
use Rattle.circuit_context.proofs.address.joined.Goals as goal

pub returns-in_default : goal.returns-in_default
returns-in_default c = λ p names m k H L begun high low.
    first_number p names (circuit c.args.logic.now) m k c.args.low H L begun (subst (λ o. MayCarry p names (circuit c.args.logic.now) m o H) c.in_default.is high) low

pub returns : goal.returns
returns c = λ p names m k H L begun may low.
    let d = circuit c.args.logic.now in
    let e = circuit c.join.new.self in
    let of = c.in-Some.high in
    let high : Carries p names d m of H = subst (λ o. MayCarry p names d m o H) c.in-Some.is may in
    let between : IsBetween 1 128 (m + k) = within m k c.width.result c.width-2.result c.saturating_add-bits.result (c.width.ensures ∙ width_is (widths d) m of high.fits)
    (c.width-2.ensures ∙ width_is (widths d) k c.args.low low.fits) c.saturating_add-bits.ensures c.if-bits-eq0.false c.if-bits-gt128.false in
    IfOk-weaker c.join.result _ _ (λ a made. next_number p names d e m k of c.args.low a H L begun high low made) (c.join.ensures m k begun.sound high.fits low.fits between)
