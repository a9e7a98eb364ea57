use Rattle.std.proofs.Common.{◌≡◌, ◌++◌, ◌+◌, map, drop, length}
use Rattle.rtl_core.specs.Netlist.{memory_of}
use Rattle.verilog_cycle.specs.Simulation.{powered_words, word_count}
use Rattle.verilog_cycle.proofs.sim.powered_memories.Given as goal

abbrev pub invariant-loop-mem : goal.invariant-loop-mem
invariant-loop-mem l = record {
  whole : powered_words (map memory_of l.mems) l.numbers ≡ l.contents.items ++ powered_words (map memory_of (drop l.mem-index l.mems)) (drop l.start l.numbers);
  count : length l.numbers ≡ l.start + word_count (map memory_of (drop l.mem-index l.mems));
}
