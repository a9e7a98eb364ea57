use Rattle.std.proofs.Common.{◌≡◌, map, drop}
use Rattle.c_token.specs.Replacement.{find_word}
use Rattle.c_parser.specs.Cursor.Keywords.{named_keyword}
use Rattle.c_parser.proofs.cursor.keyword.keyword_in.Given as goal

abbrev pub invariant-loop-word : goal.invariant-loop-word
invariant-loop-word l = find_word l.text (map named_keyword (drop l.word-index l.table)) ≡ find_word l.text (map named_keyword l.table)
