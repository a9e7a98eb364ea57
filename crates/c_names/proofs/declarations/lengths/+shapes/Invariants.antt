use Rattle.std.proofs.Common.{◌≡◌, drop}
use Rattle.c_tree.specs.View.{inits_of}
use Rattle.c_meaning.specs.Checks.Lengths.{are_misshapen}
use Rattle.c_names.proofs.declarations.lengths.+shapes.Given as goal

abbrev pub invariant-are_misshapen-loop-item : goal.invariant-are_misshapen-loop-item
invariant-are_misshapen-loop-item l = are_misshapen l.lengths (inits_of (drop l.item-index l.items)) ≡ are_misshapen l.lengths (inits_of l.items)
