use Rattle.std.proofs.Common.{arith, ◌∷◌, []}
use Rattle.std.proofs.lemmas.Result.{IfOk-weaker}
use Rattle.rtl_core.specs.Valid.{IsBetween}
use Rattle.rtl_logic.specs.Making.{circuit}
use Rattle.circuit_units.proofs.UnitsLemmas.Adding.{adds_behind}
use Rattle.circuit_units.proofs.units.units.add_multiplication.Goals as goal

pub returns-clause-adds : goal.returns-clause-adds
returns-clause-adds c = λ p names h kind.
    let d = circuit c.args.logic.now in
    let e = circuit c.inputs.new.logic in
    let between : IsBetween 1 64 c.args.unit.bits = (omega (arith, c.requires.0), c.requires.1) in
    let made = c.in_ok-given.ensures p names h between in
    IfOk-weaker c.add_multiplier.result _ _ (λ w adds. adds_behind p names d e (circuit c.add_multiplier.new.logic) (w ∷ []) made.appends adds) (c.add_multiplier.ensures.adds p names made.begun kind between made.are)
