use Rattle.std.proofs.Common.{◌≡◌, ◌≤◌, drop}
use Rattle.c_tree.specs.View.{tree_of, trees_of}
use Rattle.c_tree.specs.declared.expression.Expr.{size-Expr}
use Rattle.c_meaning.specs.Expression.{acts, any_acts}
use Rattle.c_machine.proofs.waiting.tree.+acts.Given as goal

abbrev pub invariant-acts-chain : goal.invariant-acts-chain
invariant-acts-chain l = record {
  no_deeper : size-Expr l.part ≤ size-Expr l.fn.e;
  whole : acts (tree_of l.part) ≡ acts (tree_of l.fn.e);
}

abbrev pub invariant-any_acts-loop-e : goal.invariant-any_acts-loop-e
invariant-any_acts-loop-e l = any_acts (trees_of (drop l.e-index l.es)) ≡ any_acts (trees_of l.es)
