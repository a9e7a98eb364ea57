use Rattle.std.proofs.Common.{◌≡◌, ◌++◌, drop}
use Rattle.c_parser.specs.Cursor.Types.{specifiers}
use Rattle.c_parser.proofs.cursor.types.specifiers_in.Given as goal

abbrev pub invariant-loop-word : goal.invariant-loop-word
invariant-loop-word l = l.found.items ++ specifiers (drop l.word-index l.words) ≡ specifiers l.words
