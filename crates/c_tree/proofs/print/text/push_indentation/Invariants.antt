use Rattle.std.proofs.Common.{◌≡◌, ◌++◌}
use Rattle.c_tree.specs.RowText as rows
use Rattle.c_tree.proofs.print.text.push_indentation.Given as goal

abbrev pub invariant-loop-step : goal.invariant-loop-step
invariant-loop-step l = l.out.items ≡ l.fn.out.items ++ rows.indentation l.step
