use Rattle.std.proofs.Common.{◌≡◌, drop}
use Rattle.c_parser.specs.Cursor.Types.{has_const}
use Rattle.c_parser.proofs.cursor.types.has_const.Given as goal

abbrev pub invariant-loop-word : goal.invariant-loop-word
invariant-loop-word l = has_const (drop l.word-index l.words) ≡ has_const l.words
