use Rattle.std.proofs.Common.{◌≡◌, ◌+◌, take}
use Rattle.rtl_units.specs.Fragments.{port_wires, wires_from}
use Rattle.rtl_units.proofs.builder.words_at_ports.Given as goal

abbrev pub invariant-loop-port : goal.invariant-loop-port
invariant-loop-port l = record {
  regs : l.draft.regs.items ≡ l.initial.draft.regs.items;
  first_reg : l.draft.first_reg ≡ l.initial.draft.first_reg;
  next_wire : l.draft.next_wire ≡ l.initial.draft.next_wire + l.port-index;
  wires : l.draft.wires.items ≡ port_wires l.number l.bits (take l.port-index l.ports);
  atoms : l.atoms.items ≡ wires_from l.initial.draft.next_wire l.port-index;
}
