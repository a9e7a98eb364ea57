use Rattle.std.proofs.Common.{◌≡◌, ◌+◌, map, drop}
use Rattle.rtl_core.specs.Netlist.{memory_of}
use Rattle.verilog_cycle.specs.Simulation.{word_count}
use Rattle.cosim_levels.proofs.pins.driver.word_count.Given as goal

abbrev pub invariant-loop-mem : goal.invariant-loop-mem
invariant-loop-mem l =
    l.count + word_count (map memory_of (drop l.mem-index l.mems)) ≡ word_count (map memory_of l.mems)
