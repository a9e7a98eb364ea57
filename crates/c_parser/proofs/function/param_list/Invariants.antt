use Rattle.std.proofs.Common.{◌≤◌, length, map}
use Rattle.c_token.specs.declared.punct.Punct.TheVariants as p
use Rattle.c_tree.specs.View.{param_of}
use Rattle.c_parser.specs.Cursor.Readings.{Listed}
use Rattle.c_parser.specs.Functions.{AParam}
use Rattle.c_parser.proofs.CursorLemmas.Readings.{Grows}
use Rattle.c_parser.proofs.function.param_list.Given as goal

abbrev pub invariant-loop-all : goal.invariant-loop-all
invariant-loop-all l = record {
  shorter : length l.cursor ≤ length l.fn.cursor;
  grows : Grows (Listed AParam p.RightParen) l.fn.cursor (map param_of l.all.items) l.cursor;
}

abbrev pub decreases-loop-all : goal.decreases-loop-all
decreases-loop-all l = length l.cursor
