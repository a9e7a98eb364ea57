use Rattle.std.proofs.Common.{◌≡◌, ◌≤◌}
use Rattle.c_tree.specs.View.{tree_of}
use Rattle.c_tree.specs.declared.expression.Expr.{size-Expr}
use Rattle.c_value.specs.Chains.{left_at}
use Rattle.c_value.proofs.chain.part_at.Given as goal

abbrev pub invariant-loop : goal.invariant-loop
invariant-loop l = record {
  tree : tree_of l.part ≡ left_at l.counter (tree_of l.fn.e);
  size : size-Expr l.part ≤ size-Expr l.fn.e;
}
