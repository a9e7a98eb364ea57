use Rattle.std.proofs.Common.{◌≡◌, ◌++◌, ◌≤◌, ◌+◌, ◌*◌, max, drop, length}
use Rattle.c_tree.specs.declared.expression.Expr.{size-Expr}
use Rattle.c_tree.specs.View.{tree_of, trees_of}
use Rattle.c_tree.specs.Behind.{behind_row}
use Rattle.c_tree.specs.Rows as rows
use Rattle.c_tree.proofs.BehindRows.{deepest}
use Rattle.c_tree.proofs.ListRows.{rest_row}
use Rattle.c_tree.proofs.print.expression.+expression.Given as goal

-- A call gets a smaller part of the expression, or the same part under fewer names.
abbrev pub decreases-push_behind : goal.decreases-push_behind
decreases-push_behind l = 10 * deepest l.behind.items + 4

abbrev pub decreases-push_branch : goal.decreases-push_branch
decreases-push_branch l = 10 * max (size-Expr l.test.now) (size-Expr l.yes.now) + 6

abbrev pub decreases-push_bump : goal.decreases-push_bump
decreases-push_bump l = 10 * goal.size-push_bump l + 9

abbrev pub decreases-push_call : goal.decreases-push_call
decreases-push_call l = 10 * goal.size-push_call l + 7

abbrev pub decreases-push_element : goal.decreases-push_element
decreases-push_element l = 10 * goal.size-push_element l + 7

abbrev pub decreases-push_expression : goal.decreases-push_expression
decreases-push_expression l = 10 * size-Expr l.e.now + 5

abbrev pub decreases-push_list : goal.decreases-push_list
decreases-push_list l = 10 * goal.size-push_list l + 6

abbrev pub decreases-push_subscripts : goal.decreases-push_subscripts
decreases-push_subscripts l = 10 * goal.size-push_subscripts l + 6

abbrev pub decreases-push_target : goal.decreases-push_target
decreases-push_target l = 10 * goal.size-push_target l + 8

abbrev pub invariant-push_behind-loop-part : goal.invariant-push_behind-loop-part
invariant-push_behind-loop-part l = record {
  no_deeper : deepest l.behind.items ≤ deepest l.fn.behind.items;
  whole : l.row.items ++ behind_row l.behind.items ≡ l.fn.row.items ++ behind_row l.fn.behind.items;
}

abbrev pub decreases-push_behind-loop-part : goal.decreases-push_behind-loop-part
decreases-push_behind-loop-part l = length l.behind.items

abbrev pub invariant-push_expression-chain : goal.invariant-push_expression-chain
invariant-push_expression-chain l = record {
  no_deeper : size-Expr l.part ≤ size-Expr l.fn.e;
  behind : deepest l.behind.items ≤ size-Expr l.fn.e;
  whole : l.row.items ++ (rows.expression_row l.level (tree_of l.part) ++ behind_row l.behind.items) ≡ l.fn.row.items ++ rows.expression_row l.fn.level (tree_of l.fn.e);
}

abbrev pub invariant-push_list-loop-arg : goal.invariant-push_list-loop-arg
invariant-push_list-loop-arg l = l.row.items ++ rest_row l.first (trees_of (drop l.arg-index l.args)) ≡ l.fn.row.items ++ rows.list_row (trees_of l.args)

abbrev pub invariant-push_subscripts-loop-subscript : goal.invariant-push_subscripts-loop-subscript
invariant-push_subscripts-loop-subscript l =
    l.row.items ++ rows.subscripts_row (trees_of (drop l.subscript-index l.subscripts)) ≡ l.fn.row.items ++ rows.subscripts_row (trees_of l.subscripts)
