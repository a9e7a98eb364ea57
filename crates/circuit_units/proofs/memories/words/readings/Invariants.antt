use Rattle.std.proofs.Common.{◌≡◌, take, map}
use Rattle.circuit_units.specs.Memories.Places.{reading_at}
use Rattle.circuit_units.proofs.memories.words.readings.Given as goal

abbrev pub invariant-loop-word : goal.invariant-loop-word
invariant-loop-word l = l.reads.items ≡ map (reading_at l.when) (take l.word-index l.words)
