use Rattle.std.proofs.Common.{◌∙◌, arith}
use Rattle.rtl_units.proofs.WiresFrom.{more_ports, more_words, next_up}
use Rattle.rtl_units.proofs.builder.words_at_ports.Goals as goal

pub loop-port-preserved : goal.loop-port-preserved
loop-port-preserved c = record {
  regs = c.in_ok-word_at.ensures.regs ∙ c.loop-port.invariant.regs;
  first_reg = c.in_ok-word_at.ensures.first_reg ∙ c.loop-port.invariant.first_reg;
  next_wire = next_up _ _ _ _ c.loop-port.invariant.next_wire c.in_ok-word_at.ensures.next_wire;
  wires = more_ports _ _ _ _ _ _ _ (omega arith) c.loop-port.invariant.wires c.in_ok-word_at.ensures.wires;
  atoms = more_words _ _ _ _ _ _ c.loop-port.invariant.next_wire c.in_ok-word_at.ensures.atom c.loop-port.invariant.atoms c.in_ok-push.ensures.items;
}
