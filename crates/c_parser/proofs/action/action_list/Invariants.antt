use Rattle.std.proofs.Common.{◌≤◌, length, map}
use Rattle.c_tree.specs.View.{action_of}
use Rattle.c_parser.specs.Cursor.Readings.{Listed}
use Rattle.c_parser.specs.Objects.{AnAction}
use Rattle.c_parser.proofs.CursorLemmas.Readings.{Grows}
use Rattle.c_parser.proofs.action.action_list.Given as goal

abbrev pub invariant-loop-all : goal.invariant-loop-all
invariant-loop-all l = record {
  shorter : length l.cursor ≤ length l.fn.cursor;
  grows : Grows (Listed AnAction l.closer) l.fn.cursor (map action_of l.all.items) l.cursor;
}

abbrev pub decreases-loop-all : goal.decreases-loop-all
decreases-loop-all l = length l.cursor
