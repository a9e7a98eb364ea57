use Rattle.std.proofs.Common.{◌≡◌, length}
use Rattle.c_tree.specs.View.{tree_of}
use Rattle.c_parser.specs.Chains.{all_assigned}
use Rattle.c_parser.proofs.chain.assign_all.Given as goal

abbrev pub invariant-loop-last : goal.invariant-loop-last
invariant-loop-last l = all_assigned l.chain.items (tree_of l.whole) ≡ all_assigned l.fn.chain.items (tree_of l.fn.value)

abbrev pub decreases-loop-last : goal.decreases-loop-last
decreases-loop-last l = length l.chain.items
