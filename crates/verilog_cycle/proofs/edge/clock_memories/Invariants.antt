use Rattle.std.proofs.Common.{◌≡◌, ◌++◌, length, take, drop}
use Rattle.rtl_core.specs.Netlist.{netlist_of}
use Rattle.rtl_core.specs.ClockStep.{clocked_memories}
use Rattle.verilog_cycle.specs.Inside.{value_in}
use Rattle.verilog_cycle.proofs.edge.clock_memories.Given as goal

abbrev pub invariant-loop-k : goal.invariant-loop-k
invariant-loop-k l = record {
  whole :
      clocked_memories (value_in l.values) (netlist_of l.design).mems l.initial.mems
      ≡ take l.k l.mems ++ clocked_memories (value_in l.values) (drop l.k (netlist_of l.design).mems) (drop l.k l.initial.mems);
  room : length l.mems ≡ length l.design.mems.items;
  count : length l.initial.mems ≡ length l.design.mems.items;
  rest : drop l.k l.mems ≡ drop l.k l.initial.mems;
}
