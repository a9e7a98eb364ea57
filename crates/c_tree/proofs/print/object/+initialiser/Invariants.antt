use Rattle.std.proofs.Common.{◌≡◌, ◌++◌, drop}
use Rattle.c_tree.specs.View.{inits_of}
use Rattle.c_tree.specs.StatementRows as rows
use Rattle.c_tree.proofs.ListRows.{rest_inits}
use Rattle.c_tree.proofs.print.object.+initialiser.Given as goal

abbrev pub invariant-push_inits-loop-init : goal.invariant-push_inits-loop-init
invariant-push_inits-loop-init l = l.row.items ++ rest_inits l.first (inits_of (drop l.init-index l.inits)) ≡ l.fn.row.items ++ rows.inits_row (inits_of l.inits)
