use Rattle.std.proofs.Common.{◌≡◌, ◌++◌, drop}
use Rattle.c_parser.specs.Cursor.Types.{names}
use Rattle.c_parser.proofs.cursor.types.names_in.Given as goal

abbrev pub invariant-loop-word : goal.invariant-loop-word
invariant-loop-word l = l.found.items ++ names (drop l.word-index l.words) ≡ names l.words
