use Rattle.std.proofs.Common.{List, length, ap, arith}
use Rattle.rtl_core.specs.declared.design.Atom.{Atom}
use Rattle.rtl_core.specs.Netlist.{Netlist}
use Rattle.rtl_logic.specs.Making.{circuit}
use Rattle.circuit_context.specs.declared.wanted.role.UnitKind.TheVariants as kinds
use Rattle.circuit_units.proofs.UnitsLemmas.Added.{divider_adds, first_pin, second_pin}
use Rattle.circuit_units.proofs.UnitsLemmas.Equal.{unit_of_kind}
use Rattle.circuit_units.proofs.units.units.add_divider.Goals as goal

pub index-requires : goal.index-requires
index-requires c = omega (arith, ap length c.in_ok-pins.ensures.shows)

pub index-requires-2 : goal.index-requires-2
index-requires-2 c = omega (arith, ap length c.in_ok-pins.ensures.shows)

pub returns-clause-adds : goal.returns-clause-adds
returns-clause-adds c = λ p names begun kind between inputs starting agree.
    let d : Netlist = circuit c.args.logic.now in
    let e : Netlist = circuit (record { builder = c.add.new.self; made = c.args.logic.now.made }) in
    let items : List Atom = c.in_ok-pins.pins.atoms.items in
    divider_adds p names d e c.args.unit c.args.given c.args.start c.index.result.now c.index-2.result.now begun (unit_of_kind c.args.unit kinds.Divider kind) between inputs starting agree c.in_ok-pins.ensures.grows
    (first_pin items c.index.result.now _ _ c.index.ensures c.in_ok-pins.ensures.shows) (second_pin items c.index-2.result.now _ _ c.index-2.ensures c.in_ok-pins.ensures.shows)
