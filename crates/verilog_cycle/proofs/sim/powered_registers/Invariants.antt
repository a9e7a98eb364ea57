use Rattle.std.proofs.Common.{◌≡◌, ◌++◌}
use Rattle.rtl_core.specs.declared.design.Reg.{Reg}
use Rattle.std.proofs.Common.{map}
use Rattle.verilog_cycle.specs.Simulation.{modulo_widths}
use Rattle.verilog_cycle.proofs.Powered.{rest_of_registers}
use Rattle.verilog_cycle.proofs.sim.powered_registers.Given as goal

abbrev pub invariant-loop-k : goal.invariant-loop-k
invariant-loop-k l = record {
  whole : modulo_widths (map (λ (r : Reg). r.bits) l.regs) l.numbers ≡ l.held.items ++ rest_of_registers l.regs l.numbers l.k;
}
