use Rattle.std.proofs.Common.{◌≡◌, ◌≤◌}
use Rattle.c_tree.specs.View.{tree_of}
use Rattle.c_tree.specs.declared.expression.Expr.{size-Expr}
use Rattle.c_value.specs.Constant.{is_constant}
use Rattle.c_value.proofs.constant.+is_constant.Given as goal

abbrev pub invariant-chain : goal.invariant-chain
invariant-chain l = record {
  no_deeper : size-Expr l.part ≤ size-Expr l.fn.e;
  same : is_constant (tree_of l.part) ≡ is_constant (tree_of l.fn.e);
}
