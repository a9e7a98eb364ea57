use Rattle.std.proofs.Common.{◌≡◌, ◌≤◌}
use Rattle.c_tree.specs.View.{tree_of}
use Rattle.c_tree.specs.declared.expression.Expr.{size-Expr}
use Rattle.c_machine.specs.Waiting.Chains.{around}
use Rattle.c_moves.specs.Machines.{configuration_of}
use Rattle.c_machine.specs.Moves.{kind_here}
use Rattle.c_moves.proofs.machine.Machine.+kind_here.Given as goal

abbrev pub invariant-chain : goal.invariant-chain
invariant-chain l = record {
  no_deeper : size-Expr l.part ≤ size-Expr l.fn.e;
  whole : around l.operators.items (kind_here (configuration_of l.fn.self) (tree_of l.part)) ≡ kind_here (configuration_of l.fn.self) (tree_of l.fn.e);
}
