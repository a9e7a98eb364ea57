use Rattle.std.proofs.Common.{◌≡◌, ◌++◌, ◌≤◌, drop}
use Rattle.c_tree.specs.View.{tree_of, trees_of}
use Rattle.c_tree.specs.declared.expression.Expr.{size-Expr}
use Rattle.c_meaning.specs.Checks.Recursion.{calls, all_calls}
use Rattle.c_calls.specs.Called.{backwards}
use Rattle.c_calls.proofs.called.+calls.Given as goal

abbrev pub invariant-add_calls-chain : goal.invariant-add_calls-chain
invariant-add_calls-chain l = record {
  no_deeper : size-Expr l.part ≤ size-Expr l.fn.e;
  calls : (l.calls.items ++ calls l.names (tree_of l.part)) ++ backwards l.later.items ≡ l.initial.calls.items ++ calls l.names (tree_of l.fn.e);
}

abbrev pub invariant-add_all_calls-loop-e : goal.invariant-add_all_calls-loop-e
invariant-add_all_calls-loop-e l = l.calls.items ++ all_calls l.names (trees_of (drop l.e-index l.es)) ≡ l.initial.calls.items ++ all_calls l.names (trees_of l.es)
