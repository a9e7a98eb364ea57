use Rattle.std.proofs.Common.{◌≡◌, take}
use Rattle.aig_blast.specs.Literals.{joined}
use Rattle.aig_blast.proofs.memories.join_words.Given as goal

abbrev pub invariant-loop-word : goal.invariant-loop-word
invariant-loop-word l = l.literals.items ≡ joined (take l.word-index l.words)
