use Rattle.std.proofs.Common.{◌≡◌, map, take}
use Rattle.ir_lower.specs.Frames.{memory_view, memory_of}
use Rattle.ir_lower.proofs.frame.memories_of.Given as goal

abbrev pub invariant-loop-array : goal.invariant-loop-array
invariant-loop-array l = map memory_view l.memories.items ≡ map memory_of (take l.array-index l.arrays)
