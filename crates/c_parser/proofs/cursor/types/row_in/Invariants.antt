use Rattle.std.proofs.Common.{◌≡◌, drop, map}
use Rattle.c_tree.specs.Kinds.{row_with}
use Rattle.c_parser.specs.Cursor.Types.{plain_row}
use Rattle.c_parser.proofs.cursor.types.row_in.Given as goal

abbrev pub invariant-loop-row : goal.invariant-loop-row
invariant-loop-row l = row_with l.words (map plain_row (drop l.row-index l.rows)) ≡ row_with l.words (map plain_row l.rows)
