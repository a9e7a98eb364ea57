use Rattle.std.proofs.Common.{◌≡◌, sym, ◌∙◌, subst}
use Rattle.std.specs.List.{All}
use Rattle.rtl_core.specs.Valid.{IsBetween}
use Rattle.rtl_logic.specs.Making.{circuit}
use Rattle.circuit_context.specs.declared.wanted.role.SharedUnit.{SharedUnit}
use Rattle.circuit_units.specs.Units.{AreUnitsOf}
use Rattle.circuit_units.specs.Units.Uses.{all_uses, AreUnits}
use Rattle.circuit_units.specs.Units.Adding.{AreDemands, AreSigns, Adds}
use Rattle.circuit_units.proofs.UnitsLemmas.Users.{signs_are, units_are}
use Rattle.circuit_units.proofs.UnitsLemmas.Widths.{units_wide}
use Rattle.circuit_units.proofs.units.units.add_units.Goals as goal

pub add_each-requires : goal.add_each-requires
add_each-requires c =
    let cfg = c.args.of.now.cfg.now in
    let first : c.deref.result.now ≡ all_uses cfg = c.deref.ensures.value ∙ c.in_ok-uses.ensures in
    subst (All (λ (unit : SharedUnit). IsBetween 32 64 unit.bits)) (sym c.as_slice.ensures.keys)
    (units_wide cfg c.in_ok-units.units.keys c.args.of.now.buildable.valid (subst (λ l. AreUnits l c.in_ok-units.units.keys) first c.in_ok-units.ensures))

pub returns : goal.returns
returns c =
    let d = circuit c.args.logic.now in
    let e = circuit c.add_each.new.logic in
    let cfg = c.args.of.now.cfg.now in
    let registers = c.args.of.now.registers.now in
    let groups = c.args.groups.now in
    let first : c.deref.result.now ≡ all_uses cfg = c.deref.ensures.value ∙ c.in_ok-uses.ensures in
    let second : c.deref-2.result.now ≡ all_uses cfg = c.deref-2.ensures.value ∙ c.in_ok-uses.ensures in
    record {
      adds = λ p names pushes context begun are given_.
          let demands : AreDemands p names d groups = record { begun = begun; pushes = pushes; are = are; given_ = given_ } in
          let signs : AreSigns p c.deref-2.result.now = subst (AreSigns p) (sym second) (signs_are p cfg registers _ context.plan) in
          let added : Adds p names d e c.in_ok-wires.wires.items = c.in_ok-wires.ensures.adds p names demands signs in
          let units : AreUnitsOf p c.in_ok-units.units.keys = units_are p cfg registers _ c.in_ok-units.units.keys context.plan (subst (λ l. AreUnits l c.in_ok-units.units.keys) first c.in_ok-units.ensures) in
          record {
            extends = added.extends;
            begun = added.begun;
            registers = added.registers;
            memories = added.memories;
            outputs = added.outputs;
            driven = added.driven;
            shown = added.shown;
            units = subst (AreUnitsOf p) (sym (c.in_ok-wires.ensures.units ∙ c.as_slice.ensures.keys)) units;
          };
      answers = λ p names pushes context begun are given_.
          let demands : AreDemands p names d groups = record { begun = begun; pushes = pushes; are = are; given_ = given_ } in
          let signs : AreSigns p c.deref-2.result.now = subst (AreSigns p) (sym second) (signs_are p cfg registers _ context.plan) in
          (c.in_ok-wires.ensures.adds p names demands signs).answers;
    }
