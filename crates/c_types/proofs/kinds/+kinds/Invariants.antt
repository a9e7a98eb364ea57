use Rattle.std.proofs.Common.{◌≡◌, ◌+◌, ◌*◌}
use Rattle.c_tree.specs.View.{tree_of}
use Rattle.c_tree.specs.declared.expression.Expr.{size-Expr}
use Rattle.c_value.specs.Chains.{left_at}
use Rattle.c_meaning.specs.Checks.Names.{kind_of}
use Rattle.c_types.proofs.kinds.+kinds.Given as goal

abbrev pub decreases-kind_of_part : goal.decreases-kind_of_part
decreases-kind_of_part l = 2 * size-Expr l.e.now

abbrev pub decreases-kind_of : goal.decreases-kind_of
decreases-kind_of l = 2 * size-Expr l.e.now + 1

abbrev pub decreases-kind_of-outwards : goal.decreases-kind_of-outwards
decreases-kind_of-outwards l = l.depth

abbrev pub invariant-kind_of-outwards : goal.invariant-kind_of-outwards
invariant-kind_of-outwards l = l.kind ≡ kind_of l.names (left_at l.depth (tree_of l.e))
