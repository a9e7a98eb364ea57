use Rattle.std.proofs.Common.{ap, subst, map, ◌<◌, ◌^◌, length}
use Rattle.rtl_core.specs.Netlist.{memory_of, netlist_of}
use Rattle.rtl_core.specs.declared.design.Wire.{Wire}
use Rattle.rtl_core.specs.declared.design.Reg.{Reg}
use Rattle.rtl_core.specs.declared.design.OutPin.{OutPin}
use Rattle.std.proofs.Common.{List}
use Rattle.chain_link.proofs.Near.{is_small}
use Rattle.chain_link.proofs.linking.has_small_numbers.Goals as goal

pub returns : goal.returns
returns c =
    is_small (netlist_of c.args.stage.now) (ap (map memory_of) c.requires.none)
    (subst (λ (xs : List Reg). length xs < 2 ^ 57) c.deref-2.ensures.value c.are_few_registers.ensures)
    (subst (λ (xs : List Wire). length xs < 2 ^ 57) c.deref.ensures.value c.are_few_wires.ensures)
    (subst (λ (xs : List OutPin). length xs < 2 ^ 57) c.deref-3.ensures.value c.are_few_outputs.ensures)
    c.requires.valid
