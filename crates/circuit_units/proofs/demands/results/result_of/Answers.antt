use Rattle.std.proofs.lemmas.Result.{IfOk-weaker}
use Rattle.rtl_core.specs.ClockStep.{widths}
use Rattle.rtl_core.specs.Valid.{IsBetween}
use Rattle.rtl_logic.specs.Making.{circuit}
use Rattle.circuit_units.specs.Demands.Placing.{width_before}
use Rattle.circuit_units.proofs.DemandsLemmas.Accessing.{bits_between}
use Rattle.circuit_units.proofs.DemandsLemmas.Owning.{arguments_fit}
use Rattle.circuit_units.proofs.DemandsLemmas.Making.{result_made}
use Rattle.circuit_units.proofs.demands.results.result_of.Goals as goal

pub returns : goal.returns
returns c = λ p names context begun there wire.
    let d = circuit c.args.logic.now in
    let it = c.args.it.now in
    let of = c.in_ok-arguments.arguments in
    let bits = it.op.now.bits in
    let read = c.in_ok-arguments.ensures p names context begun in
    let between : IsBetween 1 64 bits = bits_between c.args.of.now it c.requires in
    let fit = arguments_fit (widths d) it.op.now.kind bits (width_before p it) of wire read.first.fits read.second.fits read.third.fits in
    IfOk-weaker c.value_of.result _ _ (λ a made. result_made p names d (circuit c.value_of.new.logic) it of a begun there read made) (c.value_of.ensures (width_before p it) begun.sound between fit)
