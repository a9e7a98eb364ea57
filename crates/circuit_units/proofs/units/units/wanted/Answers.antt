use Rattle.std.proofs.Common.{arith}
use Rattle.std.proofs.lemmas.Result.{IfOk-weaker}
use Rattle.rtl_logic.specs.Making.{circuit}
use Rattle.circuit_units.proofs.UnitsLemmas.Adding.{wanted_made, choices_are}
use Rattle.circuit_units.proofs.units.units.wanted.Goals as goal

pub returns : goal.returns
returns c = λ p names h between wide.
    let d = circuit c.args.logic.now in
    let groups = c.args.groups.now in
    let choices = c.choices.result.now in
    IfOk-weaker c.selected.result _ _ (λ a made. wanted_made p names d (circuit c.selected.new.self) groups c.args.target choices c.args.bits a h c.choices.ensures made)
    (c.selected.ensures h.begun.sound (between.0, omega (arith, between.1)) (choices_are p names d groups c.args.target choices c.args.bits h c.choices.ensures wide))
