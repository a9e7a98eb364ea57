use Rattle.std.proofs.Common.{◌∙◌, subst}
use Rattle.std.proofs.lemmas.Result.{IfOk-weaker}
use Rattle.rtl_core.specs.declared.design.Net.TheVariants as net
use Rattle.rtl_core.specs.ClockStep.{widths}
use Rattle.rtl_core.proofs.Fits.{width_is}
use Rattle.rtl_units.specs.Fragments.{wire_of}
use Rattle.rtl_logic.specs.Making.{circuit, AddsWire}
use Rattle.rtl_logic.proofs.Showing.{pick_wire}
use Rattle.rtl_logic.proofs.logic.Logic.pick.Goals as goal

pub returns : goal.returns
returns c = λ n sound between t f g.
    let d = circuit c.args.self.now in
    let e = circuit c.wire.new.self in
    let same = c.width-bits.ensures ∙ width_is (widths d) n c.args.one f in
    IfOk-weaker c.wire.result _ _
    (λ a adds. pick_wire d n c.args.test c.args.one c.args.other sound t f g e a between (subst (λ m. AddsWire d e (wire_of m (net.Pick c.args.test c.args.one c.args.other)) a) same adds)) c.wire.ensures
