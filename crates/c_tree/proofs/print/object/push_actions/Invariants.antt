use Rattle.std.proofs.Common.{◌≡◌, ◌++◌, drop, map}
use Rattle.c_tree.specs.View.{action_of}
use Rattle.c_tree.specs.StatementRows as rows
use Rattle.c_tree.proofs.ListRows.{rest_listed}
use Rattle.c_tree.proofs.print.object.push_actions.Given as goal

abbrev pub invariant-loop-action : goal.invariant-loop-action
invariant-loop-action l =
    l.row.items ++ rest_listed rows.action_row l.first (map action_of (drop l.action-index l.actions)) ≡ l.fn.row.items ++ rows.actions_row (map action_of l.actions)
