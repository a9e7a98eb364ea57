use Rattle.std.proofs.Common.{length, map}
use Rattle.c_tree.specs.View.{item_of}
use Rattle.c_parser.specs.Functions.{Items}
use Rattle.c_parser.proofs.CursorLemmas.Readings.{Grows}
use Rattle.c_parser.proofs.function.items.Given as goal

abbrev pub invariant-loop-token : goal.invariant-loop-token
invariant-loop-token l = Grows Items l.fn.cursor (map item_of l.all.items) l.cursor

abbrev pub decreases-loop-token : goal.decreases-loop-token
decreases-loop-token l = length l.cursor
