use Rattle.std.proofs.Common.{◌≡◌, true, false, List, get_or, slice_get, Some, sym, ap, ◌∙◌, subst}
use Rattle.std.proofs.lemmas.Option.{slice_get-get_or}
use Rattle.rtl_core.specs.declared.design.Atom.TheVariants as atom
use Rattle.rtl_core.specs.Netlist.{Netlist}
use Rattle.datapath.specs.Plans.{Plan}
use Rattle.datapath.specs.Cycles.{Register}
use Rattle.circuit_context.specs.Wanted.Logs.{CarriesSome}
use Rattle.circuit_context.specs.declared.wanted.role.UnitKind.TheVariants as kind
use Rattle.circuit_context.specs.declared.wanted.role.SharedUnit.{SharedUnit}
use Rattle.circuit_units.specs.declared.units.units.UnitWires.{UnitWires}
use Rattle.circuit_units.specs.Units.{answer_of, CarriesAnswers}
use Rattle.circuit_units.specs.Units.Uses.{unit_with}
use Rattle.circuit_units.proofs.UnitsLemmas.Equal.{unit_same}
use Rattle.circuit_units.proofs.units.units.UnitTable.answer.Goals as goal

answer_is : (p : Plan) (names : List Register) (d : Netlist) (w : UnitWires) (unit : SharedUnit) → CarriesAnswers p names d w → w.unit ≡ unit
    → CarriesSome p names d w.first (answer_of p unit false) × CarriesSome p names d w.second (answer_of p unit true)
answer_is p names d w unit h e = subst (λ (u : SharedUnit). CarriesSome p names d w.first (answer_of p u false) × CarriesSome p names d w.second (answer_of p u true)) e h

abbrev no_wires : UnitWires
no_wires =
    record { unit = unit_with kind.Multiplier 0 0; left = atom.Constant 0 0; right = atom.Constant 0 0; signed = atom.Constant 0 0; first = atom.Constant 0 0; second = atom.Constant 0 0 }

pub returns-then-second : goal.returns-then-second
returns-then-second c = λ p names d h.
    let items : List UnitWires = c.deref-each-items.result.now in
    let i = c.loop-each.each-index in
    let w : UnitWires = get_or items i no_wires in
    let at : slice_get c.args.self.now.wires.items i ≡ Some w = ap (λ l. slice_get l i) (sym c.deref-each-items.ensures.value) ∙ slice_get-get_or items i no_wires c.loop-each-test.true in
    let same = unit_same w.unit c.args.unit (sym c.eq.ensures ∙ c.if-eq.true) in
    subst (λ b. CarriesSome p names d w.second (answer_of p c.args.unit b)) (sym c.if-second.true) (answer_is p names d w c.args.unit (h i w at) same).1

pub returns-else-second : goal.returns-else-second
returns-else-second c = λ p names d h.
    let items : List UnitWires = c.deref-each-items.result.now in
    let i = c.loop-each.each-index in
    let w : UnitWires = get_or items i no_wires in
    let at : slice_get c.args.self.now.wires.items i ≡ Some w = ap (λ l. slice_get l i) (sym c.deref-each-items.ensures.value) ∙ slice_get-get_or items i no_wires c.loop-each-test.true in
    let same = unit_same w.unit c.args.unit (sym c.eq.ensures ∙ c.if-eq.true) in
    subst (λ b. CarriesSome p names d w.first (answer_of p c.args.unit b)) (sym c.if-second.false) (answer_is p names d w c.args.unit (h i w at) same).0
