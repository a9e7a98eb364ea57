use Rattle.std.proofs.Common.{◌+◌, ◌*◌, ◌≤◌, length, map}
use Rattle.c_tree.specs.View.{init_of}
use Rattle.c_parser.proofs.CursorLemmas.Readings.{Grows}
use Rattle.c_parser.proofs.Initialisers.{InitList}
use Rattle.c_parser.proofs.object.+initialiser.Given as goal

-- A brace is taken between them.
abbrev pub decreases-init : goal.decreases-init
decreases-init l = 2 * length l.cursor.now

abbrev pub decreases-inits : goal.decreases-inits
decreases-inits l = 2 * length l.cursor.now + 1

abbrev pub invariant-inits-loop-items : goal.invariant-inits-loop-items
invariant-inits-loop-items l = record {
  shorter : length l.cursor ≤ length l.fn.cursor;
  grows : Grows InitList l.fn.cursor (map init_of l.items.items) l.cursor;
}

abbrev pub decreases-inits-loop-items : goal.decreases-inits-loop-items
decreases-inits-loop-items l = length l.cursor
