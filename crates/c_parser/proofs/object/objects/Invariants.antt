use Rattle.std.proofs.Common.{◌≤◌, length, map}
use Rattle.c_token.specs.declared.punct.Punct.TheVariants as p
use Rattle.c_tree.specs.View.{object_of}
use Rattle.c_parser.specs.Cursor.Readings.{Listed}
use Rattle.c_parser.specs.Objects.{AnObject}
use Rattle.c_parser.proofs.CursorLemmas.Readings.{Grows}
use Rattle.c_parser.proofs.object.objects.Given as goal

abbrev pub invariant-loop-all : goal.invariant-loop-all
invariant-loop-all l = record {
  shorter : length l.cursor ≤ length l.fn.cursor;
  grows : Grows (Listed (AnObject l.kind) p.Semicolon) l.fn.cursor (map object_of l.all.items) l.cursor;
}

abbrev pub decreases-loop-all : goal.decreases-loop-all
decreases-loop-all l = length l.cursor
