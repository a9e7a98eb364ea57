use Rattle.std.proofs.Common.{◌≡◌, arith, ◌∷◌, [], sym, ap, ◌∙◌}
use Rattle.std.specs.Prelude.{not}
use Rattle.std.proofs.lemmas.Result.{IfOk-weaker}
use Rattle.rtl_core.specs.Valid.{IsBetween}
use Rattle.rtl_logic.specs.Making.{circuit}
use Rattle.rtl_logic.specs.Choosing.{is_any_wanted}
use Rattle.rtl_logic.proofs.Making.{appended, appends_both}
use Rattle.datapath.specs.Cycles.{bit}
use Rattle.datapath.specs.Units.{argument_writes, is_dividing}
use Rattle.datapath.proofs.Combining.{carries_on, carries_as}
use Rattle.circuit_context.specs.declared.wanted.role.UnitKind.TheVariants as kinds
use Rattle.circuit_context.specs.declared.wanted.role.SharedUnit.{SharedUnit}
use Rattle.circuit_context.specs.Wanted.Roles.{class_of}
use Rattle.circuit_units.specs.Units.Adding.{signs_of}
use Rattle.circuit_units.specs.Units.Uses.{unit_with}
use Rattle.circuit_units.proofs.UnitsLemmas.Adding.{demands_later, adds_behind}
use Rattle.circuit_units.proofs.UnitsLemmas.Demands.{dividing_is}
use Rattle.circuit_units.proofs.UnitsLemmas.Equal.{differ, unit_of_kind}
use Rattle.circuit_units.proofs.units.units.add_division.Goals as goal

pub returns-clause-adds : goal.returns-clause-adds
returns-clause-adds c = λ p names h kind signs.
    let d = circuit c.args.logic.now in
    let e = circuit c.starts.new.logic in
    let f = circuit c.inputs.new.logic in
    let g = circuit c.add_divider.new.logic in
    let groups = c.args.groups.now in
    let unit = c.args.division.unit in
    let between : IsBetween 32 64 unit.bits = c.requires in
    let wide : IsBetween 1 64 unit.bits = (omega (arith, between.0), between.1) in
    let start = c.in_ok-start.start in
    let is : unit ≡ unit_with kinds.Divider unit.bits unit.number = unit_of_kind unit kinds.Divider kind in
    let first = carries_as p names d e 1 start (λ c. bit (is_any_wanted (argument_writes p c (class_of unit) unit.number 0))) (λ c. bit (is_dividing p c unit.bits unit.number))
    (λ c. ap bit (ap (λ (u : SharedUnit). is_any_wanted (argument_writes p c (class_of u) u.number 0)) is ∙ dividing_is p c unit.bits unit.number)) (c.in_ok-start.ensures p names h) in
    let at_e = demands_later p names d e groups (appended d e first.appends) first.begun h in
    let made = c.in_ok-given.ensures p names at_e wide in
    let starts = carries_on p names e f 1 start (λ c. bit (is_dividing p c unit.bits unit.number)) (appended e f made.appends) first.carries in
    let unsigned = sym c.is_zero.ensures ∙ (differ c.is_zero.result c.args.division.signed c.if-is_zero-division.false ∙ ap not (signs ∙ ap (signs_of p) is)) in
    IfOk-weaker c.add_divider.result _ _ (λ w adds. adds_behind p names d f g (w ∷ []) (appends_both d e f first.appends made.appends) adds)
    (c.add_divider.ensures.adds p names made.begun kind between made.are starts unsigned)
