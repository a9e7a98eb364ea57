use Rattle.std.proofs.Common.{◌≡◌, drop}
use Rattle.cosim_levels.specs.Numerals.{bits_of_words}
use Rattle.cosim_levels.specs.Rows.{texts_of}
use Rattle.cosim_levels.proofs.Rows.{before}
use Rattle.cosim_levels.proofs.row.all_bits.Given as goal

abbrev pub invariant-loop-word : goal.invariant-loop-word
invariant-loop-word l = before l.all.items (bits_of_words l.kind (texts_of (drop l.word-index l.words))) ≡ bits_of_words l.kind (texts_of l.words)
