use Rattle.std.proofs.Common.{◌≡◌, ◌++◌, drop}
use Rattle.c_tree.specs.RowText as rows
use Rattle.c_tree.proofs.print.text.push_text.Given as goal

abbrev pub invariant-loop-i : goal.invariant-loop-i
invariant-loop-i l = l.out.items ++ rows.row_text (drop l.i l.row) ≡ l.fn.out.items ++ rows.row_text l.row
