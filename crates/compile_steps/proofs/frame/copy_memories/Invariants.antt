use Rattle.std.proofs.Common.{◌≡◌, map, take}
use Rattle.ir_lower.specs.Frames.{memory_view}
use Rattle.compile_steps.proofs.frame.copy_memories.Given as goal

abbrev pub invariant-loop-memory : goal.invariant-loop-memory
invariant-loop-memory l = map memory_view l.copies.items ≡ map memory_view (take l.memory-index l.memories)
