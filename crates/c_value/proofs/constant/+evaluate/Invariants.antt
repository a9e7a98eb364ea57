use Rattle.std.proofs.Common.{◌≡◌, ◌+◌, ◌*◌}
use Rattle.c_tree.specs.View.{tree_of}
use Rattle.c_tree.specs.declared.expression.Expr.{size-Expr}
use Rattle.c_value.specs.Operators.{computed_of}
use Rattle.c_value.specs.Constant.{constant_kind, constant_number}
use Rattle.c_value.specs.Chains.{left_at}
use Rattle.c_value.proofs.constant.+evaluate.Given as goal

abbrev pub decreases-evaluate_part : goal.decreases-evaluate_part
decreases-evaluate_part l = 2 * size-Expr l.e.now

abbrev pub decreases-evaluate : goal.decreases-evaluate
decreases-evaluate l = 2 * size-Expr l.e.now + 1

abbrev pub decreases-evaluate-outwards : goal.decreases-evaluate-outwards
decreases-evaluate-outwards l = l.depth

abbrev pub invariant-evaluate-outwards : goal.invariant-evaluate-outwards
invariant-evaluate-outwards l = record {
  kind : l.whole.kind ≡ constant_kind (left_at l.depth (tree_of l.e));
  number : computed_of l.whole.number ≡ constant_number (left_at l.depth (tree_of l.e));
}
