use Rattle.std.proofs.Common.{◌≡◌, ◌++◌, ◌≤◌, drop, map, List}
use Rattle.c_tree.specs.Tree.{ObjectTree}
use Rattle.c_tree.specs.View.{object_of}
use Rattle.c_meaning.specs.Checks.Limits.{kept_faults}
use Rattle.c_names.proofs.declarations.arrays.keep.Given as goal

abbrev pub invariant-loop-object : goal.invariant-loop-object
invariant-loop-object l = record { bound : l.total ≤ 65536; rest : (rest : List ObjectTree) → kept_faults l.sum (map object_of l.objects ++ rest) ≡ kept_faults l.total (map object_of (drop l.object-index l.objects) ++ rest) }
