use Rattle.std.proofs.Common.{◌≡◌, map, drop}
use Rattle.c_token.specs.Replacement.{find_word}
use Rattle.c_parser.specs.Cursor.Types.{named_specifier}
use Rattle.c_parser.proofs.cursor.types.specifier_in.Given as goal

abbrev pub invariant-loop-word : goal.invariant-loop-word
invariant-loop-word l = find_word l.text (map named_specifier (drop l.word-index l.table)) ≡ find_word l.text (map named_specifier l.table)
