use Rattle.std.proofs.Common.{◌≤◌, length, map}
use Rattle.std.specs.Option.{option_map}
use Rattle.c_tree.specs.View.{tree_of}
use Rattle.c_parser.proofs.CursorLemmas.Readings.{Grows}
use Rattle.c_parser.proofs.Optionals.{LengthSigns}
use Rattle.c_parser.proofs.object.lengths.Given as goal

abbrev pub invariant-loop-alloc : goal.invariant-loop-alloc
invariant-loop-alloc l = record {
  shorter : length l.cursor ≤ length l.fn.cursor;
  grows : Grows LengthSigns l.fn.cursor (map (option_map tree_of) l.es.items) l.cursor;
}

abbrev pub decreases-loop-alloc : goal.decreases-loop-alloc
decreases-loop-alloc l = length l.cursor
