use Rattle.std.proofs.Common.{◌≤◌, length}
use Rattle.c_parser.specs.Cursor.Readings.{Anywhere}
use Rattle.c_parser.specs.Functions.{AnItem}
use Rattle.c_parser.proofs.CursorLemmas.Readings.{Step}
use Rattle.c_parser.proofs.function.item.Given as goal

abbrev pub invariant-loop : goal.invariant-loop
invariant-loop l = record {
  shorter : length l.cursor ≤ length l.fn.cursor;
  step : Step AnItem Anywhere l.fn.cursor AnItem Anywhere l.cursor (λ item. item);
}

abbrev pub decreases-loop : goal.decreases-loop
decreases-loop l = length l.cursor
