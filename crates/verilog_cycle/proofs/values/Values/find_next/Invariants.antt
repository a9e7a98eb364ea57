use Rattle.std.proofs.Common.{◌≡◌, ◌++◌, length, take, drop}
use Rattle.rtl_core.specs.ClockStep.{clocked_registers}
use Rattle.verilog_cycle.specs.Inside.{value_in}
use Rattle.verilog_cycle.proofs.values.Values.find_next.Given as goal

abbrev pub invariant-loop-k : goal.invariant-loop-k
invariant-loop-k l = record {
  whole :
      clocked_registers (value_in l.initial.self) l.regs l.initial.self.regs.items
      ≡ take l.k l.self.next.items ++ clocked_registers (value_in l.initial.self) (drop l.k l.regs) (drop l.k l.initial.self.regs.items);
  room : length l.self.next.items ≡ length l.regs;
  pins : l.self.pins.items ≡ l.initial.self.pins.items;
  regs : l.self.regs.items ≡ l.initial.self.regs.items;
  wires : l.self.wires.items ≡ l.initial.self.wires.items;
}
