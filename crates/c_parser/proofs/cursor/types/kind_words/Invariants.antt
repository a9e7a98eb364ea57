use Rattle.std.proofs.Common.{◌≤◌, length}
use Rattle.c_parser.specs.Cursor.Types.{KindWords}
use Rattle.c_parser.proofs.CursorLemmas.Readings.{Grows}
use Rattle.c_parser.proofs.cursor.types.kind_words.Given as goal

abbrev pub invariant-loop-word : goal.invariant-loop-word
invariant-loop-word l = record {
  shorter : length l.cursor ≤ length l.fn.cursor;
  grows : Grows KindWords l.fn.cursor l.words.items l.cursor;
}

abbrev pub decreases-loop-word : goal.decreases-loop-word
decreases-loop-word l = length l.cursor
