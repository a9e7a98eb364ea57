use Rattle.std.proofs.Common.{◌≡◌, drop}
use Rattle.std.specs.List.{list_all}
use Rattle.program_validity.specs.Widths.{is_word}
use Rattle.program_validity.proofs.widths.are_words.Given as goal

abbrev pub invariant-loop-word : goal.invariant-loop-word
invariant-loop-word l = list_all (is_word l.bits) (drop l.word-index l.words) ≡ list_all (is_word l.bits) l.words
