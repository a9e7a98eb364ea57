use Rattle.std.proofs.Common.{◌≡◌, ◌++◌, drop, map}
use Rattle.c_tree.specs.View.{param_of}
use Rattle.c_tree.specs.StatementRows as rows
use Rattle.c_tree.proofs.ListRows.{rest_listed}
use Rattle.c_tree.proofs.print.item.push_some_params.Given as goal

abbrev pub invariant-loop-param : goal.invariant-loop-param
invariant-loop-param l =
    l.row.items ++ rest_listed rows.param_row l.first (map param_of (drop l.param-index l.params)) ≡ l.fn.row.items ++ rows.listed rows.param_row (map param_of l.params)
