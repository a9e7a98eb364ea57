use Rattle.std.proofs.Common.{◌≡◌, ◌++◌, ◌≤◌, [], drop}
use Rattle.c_tree.specs.View.{tree_of, trees_of}
use Rattle.c_tree.specs.declared.expression.Expr.{size-Expr}
use Rattle.c_types.specs.Chains.{found_of, steps}
use Rattle.c_meaning.specs.Checks.Faults.{lesser, least}
use Rattle.c_meaning.specs.Checks.Conflicts.{all_accesses, conflicts_among}
use Rattle.c_meaning.specs.Checks.Expressions.{operand_faults}
use Rattle.c_types.proofs.expressions.+expression.Given as goal

abbrev pub invariant-all_operands-loop-i : goal.invariant-all_operands-loop-i
invariant-all_operands-loop-i l = record {
  faults : lesser l.fault (least (operand_faults l.bodies l.names (drop l.i l.params) (trees_of (drop l.i l.es)))) ≡ least (operand_faults l.bodies l.names l.params (trees_of l.es));
  conflicts : lesser l.conflict (least (conflicts_among l.names l.before (trees_of (drop l.i l.es)))) ≡ least (conflicts_among l.names [] (trees_of l.es));
  accesses : l.before ++ all_accesses l.names (trees_of (drop l.i l.es)) ≡ all_accesses l.names (trees_of l.es);
}

abbrev pub invariant-expression-chain : goal.invariant-expression-chain
invariant-expression-chain l = record {
  no_deeper : size-Expr l.part ≤ size-Expr l.fn.e;
  whole : steps l.steps.items (found_of l.used l.bodies l.names (tree_of l.part)) ≡ found_of l.fn.used l.bodies l.names (tree_of l.fn.e);
}
