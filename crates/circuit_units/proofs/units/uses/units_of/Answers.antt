use Rattle.std.proofs.Common.{◌++◌, ◌∷◌, [], List, false, take, get_or, sym, subst}
use Rattle.std.proofs.lemmas.List.{take_more}
use Rattle.circuit_context.specs.declared.wanted.role.UnitKind.TheVariants as kind
use Rattle.circuit_units.specs.declared.units.uses.UnitUse.{UnitUse}
use Rattle.circuit_units.specs.Units.Uses.{use_with, AreUnits}
use Rattle.circuit_units.proofs.UnitsLemmas.Equal.{unit_eq, unit_same, unit_itself}
use Rattle.circuit_units.proofs.UnitsLemmas.Users.{unit_more}
use Rattle.circuit_units.proofs.units.uses.units_of.Goals as goal

pub loop-each-preserved : goal.loop-each-preserved
loop-each-preserved c =
    let uses : List UnitUse = c.args.uses.now in
    let i = c.loop-each.each-index in
    let none : UnitUse = use_with kind.Multiplier 0 0 false in
    let here : UnitUse = get_or uses i none in
    subst (λ l. AreUnits l c.insert.new.self.keys) (sym (take_more uses i none c.loop-each-test.true))
    (subst (AreUnits (take i uses ++ here ∷ [])) (sym c.in_ok-insert.ensures.keys) (unit_more unit_eq unit_same unit_itself (take i uses) c.loop-each.units.keys here c.loop-each.invariant))
