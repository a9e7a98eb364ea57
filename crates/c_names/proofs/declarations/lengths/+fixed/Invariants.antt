use Rattle.std.proofs.Common.{◌≡◌, drop}
use Rattle.c_tree.specs.View.{inits_of}
use Rattle.c_meaning.specs.Checks.Lengths.{are_fixed}
use Rattle.c_names.proofs.declarations.lengths.+fixed.Given as goal

abbrev pub invariant-are_fixed-loop-item : goal.invariant-are_fixed-loop-item
invariant-are_fixed-loop-item l = are_fixed (inits_of (drop l.item-index l.items)) ≡ are_fixed (inits_of l.items)
