use Rattle.std.proofs.Common.{◌≡◌, drop}
use Rattle.c_token.specs.Replacement.{find_word, exact_types}
use Rattle.c_macro.proofs.words.exact_type.Given as goal

abbrev pub invariant-loop-name : goal.invariant-loop-name
invariant-loop-name l = find_word l.word exact_types ≡ find_word l.word (drop l.name-index exact_types)
