use Rattle.std.proofs.Common.{◌≡◌, drop}
use Rattle.c_tree.specs.View.{object_of}
use Rattle.cosim_levels.specs.Comparison.{in_elements}
use Rattle.cosim_levels.proofs.difference.in_elements.Given as goal

abbrev pub invariant-loop-k : goal.invariant-loop-k
invariant-loop-k l = in_elements (object_of l.object) l.k (drop l.k l.expected) (drop l.k l.found) ≡ in_elements (object_of l.object) 0 l.expected l.found
