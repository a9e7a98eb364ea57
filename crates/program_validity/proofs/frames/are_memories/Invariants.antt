use Rattle.std.proofs.Common.{◌≡◌, drop}
use Rattle.std.specs.List.{list_all}
use Rattle.program_validity.specs.Frames.{is_memory}
use Rattle.program_validity.proofs.frames.are_memories.Given as goal

abbrev pub invariant-loop-memory : goal.invariant-loop-memory
invariant-loop-memory l = list_all is_memory (drop l.memory-index l.memories) ≡ list_all is_memory l.memories
