use Rattle.std.proofs.Common.{◌≡◌, ◌+◌, ◌≤◌, ◌-◌}
use Rattle.c_tree.specs.View.{tree_of}
use Rattle.c_value.specs.Chains.{operators}
use Rattle.c_value.proofs.chain.chain_length.Given as goal

abbrev pub decreases-chain : goal.decreases-chain
decreases-chain l = 256 - l.length

abbrev pub invariant-chain : goal.invariant-chain
invariant-chain l = record {
  bound : l.length ≤ 256;
  same : l.length + operators (tree_of l.part) ≡ operators (tree_of l.fn.e);
}
