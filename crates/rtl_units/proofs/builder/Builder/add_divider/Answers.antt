use Rattle.rtl_core.specs.Netlist.{netlist_of}
use Rattle.rtl_units.proofs.Divisions.{divider_grown}
use Rattle.rtl_units.proofs.builder.Builder.add_divider.Goals as goal

pub returns-clause-grown : goal.returns-clause-grown
returns-clause-grown c =
    divider_grown (netlist_of c.args.self.now.design) _ c.args.division _ _ _ _ _ _ c.new-draft.ensures.first_reg c.new-draft.ensures.next_wire c.in_ok-quotient.ensures.regs
    c.in_ok-quotient.ensures.wires c.in_ok-shown.ensures.grown
