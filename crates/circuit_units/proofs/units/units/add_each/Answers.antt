use Rattle.std.proofs.Common.{◌≡◌, ◌++◌, ◌∷◌, [], List, map, take, get_or, sym, ap, ◌∙◌, subst}
use Rattle.std.proofs.lemmas.List.{map-append, take_more, take_all}
use Rattle.rtl_logic.specs.Making.{circuit}
use Rattle.datapath.specs.Cycles.{Register}
use Rattle.circuit_context.specs.declared.wanted.role.UnitKind.TheVariants as kind
use Rattle.circuit_context.specs.declared.wanted.role.SharedUnit.{SharedUnit}
use Rattle.circuit_units.specs.declared.units.units.UnitWires.{UnitWires}
use Rattle.circuit_units.specs.Units.Uses.{unit_with}
use Rattle.circuit_units.specs.Units.Adding.{registers_in, Adds}
use Rattle.circuit_units.proofs.UnitsLemmas.Adding.{demands_longer, adds_none, adds_then}
use Rattle.circuit_units.proofs.units.units.add_each.Goals as goal

pub loop-each-init : goal.loop-each-init
loop-each-init c = record {
  adds = λ p names h signs. let d = circuit c.args.logic.now in subst (Adds p names d d) (sym c.in_ok-wires.ensures.items) (adds_none p names d h.begun);
  units = ap (map (λ (w : UnitWires). w.unit)) c.in_ok-wires.ensures.items;
}

pub add_unit-requires : goal.add_unit-requires
add_unit-requires c = c.requires c.loop-each.each-index (unit_with kind.Multiplier 0 0) c.loop-each-test.true

pub loop-each-preserved : goal.loop-each-preserved
loop-each-preserved c =
    let d = circuit c.args.logic.now in
    let e = circuit c.loop-each.logic in
    let f = circuit c.add_unit.new.logic in
    let i = c.loop-each.each-index in
    let units : List SharedUnit = c.args.units.now in
    let before : List UnitWires = c.loop-each.wires.items in
    let w : UnitWires = c.in_ok-add_unit.field-0 in
    let none : SharedUnit = unit_with kind.Multiplier 0 0 in
    let here : SharedUnit = get_or units i none in
    let pushed : c.push.new.self.items ≡ before ++ w ∷ [] = c.in_ok-push.ensures.items in
    record {
      adds = λ p names h signs.
          let a = c.loop-each.invariant.adds p names h signs in
          let more : List Register = registers_in p before in
          let at_e = demands_longer p names more d e c.args.groups.now a.extends a.begun h in
          let one = c.in_ok-add_unit.ensures.adds p (names ++ more) at_e (c.has_signs-signed.ensures ∙ signs here) in
          subst (Adds p names d f) (sym pushed) (adds_then p names d e f before (w ∷ []) h.begun a one);
      units =
          ap (map (λ (v : UnitWires). v.unit)) pushed
          ∙ (map-append (λ (v : UnitWires). v.unit) before (w ∷ [])
          ∙ (ap (λ l. l ++ w.unit ∷ []) c.loop-each.invariant.units
          ∙ (ap (λ x. take i units ++ x ∷ []) c.in_ok-add_unit.ensures.unit ∙ sym (take_more units i none c.loop-each-test.true))));
    }

pub returns : goal.returns
returns c = record { adds = λ p names h signs. c.loop-each.invariant.adds p names h signs; units = c.loop-each.invariant.units ∙ take_all c.loop-each.each-index c.args.units.now c.loop-each-test.false }
