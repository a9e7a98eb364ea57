use Rattle.std.proofs.Common.{◌≡◌, ◌+◌, length, ap, ◌∙◌, arith}
use Rattle.rtl_core.specs.declared.design.Atom.TheVariants as atom
use Rattle.rtl_core.specs.Netlist.{Netlist}
use Rattle.rtl_logic.specs.Making.{circuit, next_in}
use Rattle.circuit_context.specs.declared.wanted.role.UnitKind.TheVariants as kinds
use Rattle.circuit_units.proofs.UnitsLemmas.Added.{only_pin}
use Rattle.circuit_units.proofs.UnitsLemmas.Equal.{unit_of_kind}
use Rattle.circuit_units.proofs.UnitsLemmas.Multipliers.{multiplier_adds}
use Rattle.circuit_units.proofs.units.units.add_multiplier.Goals as goal

pub index-requires : goal.index-requires
index-requires c = omega (arith, ap length c.in_ok-pins.ensures.shows)

pub returns-clause-adds : goal.returns-clause-adds
returns-clause-adds c = λ p names begun kind between inputs.
    let d : Netlist = circuit c.args.logic.now in
    let e : Netlist = circuit (record { builder = c.add.new.self; made = c.args.logic.now.made }) in
    let register : c.index.result.now ≡ atom.Reg (length d.regs + 2) = only_pin c.in_ok-pins.pins.atoms.items c.index.result.now _ c.index.ensures c.in_ok-pins.ensures.shows in
    multiplier_adds p names d e c.args.unit c.args.given c.next_of-product.result begun (unit_of_kind c.args.unit kinds.Multiplier kind) between inputs c.in_ok-pins.ensures.grows
    (c.next_of-product.ensures ∙ ap (next_in e) register)
