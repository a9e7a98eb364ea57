use Rattle.std.proofs.Common.{◌≡◌, ◌++◌, length, map, take, drop}
use Rattle.rtl_core.specs.declared.design.Pin.{Pin}
use Rattle.verilog_cycle.specs.Simulation.{modulo_widths}
use Rattle.verilog_cycle.proofs.values.Values.take_pins.Given as goal

abbrev pub invariant-loop-k : goal.invariant-loop-k
invariant-loop-k l = record {
  whole : modulo_widths (map (λ (p : Pin). p.bits) l.inputs) l.pins ≡ take l.k l.self.pins.items ++ modulo_widths (map (λ (p : Pin). p.bits) (drop l.k l.inputs)) (drop l.k l.pins);
  room : length l.self.pins.items ≡ length l.inputs;
  regs : l.self.regs.items ≡ l.initial.self.regs.items;
  next : l.self.next.items ≡ l.initial.self.next.items;
  wires : l.self.wires.items ≡ l.initial.self.wires.items;
}
