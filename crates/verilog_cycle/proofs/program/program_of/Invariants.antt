use Rattle.std.proofs.Common.{◌≡◌, ◌<◌, ℕ, length, get_or}
use Rattle.rtl_core.specs.declared.design.Wire.{Wire}
use Rattle.rtl_core.specs.Netlist.{netlist_of}
use Rattle.verilog_cycle.specs.declared.program.Instruction.{Instruction}
use Rattle.verilog_cycle.specs.Program.{IsInstruction}
use Rattle.verilog_cycle.proofs.program.program_of.Given as goal

abbrev pub invariant-loop-k : goal.invariant-loop-k
invariant-loop-k l = record {
  count : length l.program.items ≡ l.k;
  each : (k : ℕ) (x : Wire) (i : Instruction) → k < l.k → IsInstruction (netlist_of l.design) (get_or l.design.wires.items k x) (get_or l.program.items k i);
}
