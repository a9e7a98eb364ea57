use Rattle.std.proofs.Common.{◌≡◌, ◌++◌, ◌≤◌, map, drop}
use Rattle.c_tree.specs.View.{tree_of}
use Rattle.c_tree.specs.declared.expression.Expr.{Expr, size-Expr}
use Rattle.c_elaborate.specs.Chains.{steps}
use Rattle.pieces.specs.Resolved.CoreView.{core_of, core_argument_of}
use Rattle.c_elaborate.specs.Expressions.{elaborated, argument_elaborated}
use Rattle.c_elaborate.proofs.expressions.+expression.Given as goal

abbrev pub invariant-expression-chain : goal.invariant-expression-chain
invariant-expression-chain l = record {
  no_deeper : size-Expr l.part ≤ size-Expr l.fn.e;
  whole : steps l.steps.items (elaborated l.functions l.names (tree_of l.part)) ≡ elaborated l.functions l.names (tree_of l.fn.e);
}

abbrev pub invariant-all-loop-e : goal.invariant-all-loop-e
invariant-all-loop-e l =
    let done = λ (e : Expr). elaborated l.functions l.names (tree_of e) in
    map core_of l.list.items ++ map done (drop l.e-index l.es) ≡ map done l.es

abbrev pub invariant-arguments-loop-arg : goal.invariant-arguments-loop-arg
invariant-arguments-loop-arg l =
    let done = λ (e : Expr). argument_elaborated l.functions l.names (tree_of e) in
    map core_argument_of l.list.items ++ map done (drop l.arg-index l.args) ≡ map done l.args
