use Rattle.std.proofs.Common.{◌≡◌, ◌++◌, drop, map}
use Rattle.c_tree.specs.View.{item_of}
use Rattle.c_meaning.specs.Checks.Limits.{file_arrays}
use Rattle.c_names.proofs.declarations.arrays.file_arrays.Given as goal

abbrev pub invariant-loop-item : goal.invariant-loop-item
invariant-loop-item l = l.places.items ++ file_arrays (map item_of (drop l.item-index l.items)) ≡ file_arrays (map item_of l.items)
