use Rattle.std.proofs.Common.{◌≡◌, ◌++◌, take, drop, map}
use Rattle.rtl_core.specs.Netlist.{memory_of}
use Rattle.rtl_logic.specs.Pruning.{Marked, renamed_memory}
use Rattle.rtl_logic.specs.Marking.{AreNumbers}
use Rattle.rtl_logic.proofs.prune.renumber_memories.Given as goal

abbrev pub invariant-loop-memory : goal.invariant-loop-memory
invariant-loop-memory l = (m : Marked) → AreNumbers l.numbers m
    → map memory_of l.memories ≡ map (renamed_memory m) (take l.memory-index (map memory_of l.initial.memories)) ++ drop l.memory-index (map memory_of l.initial.memories)
