use Rattle.std.proofs.Common.{◌≡◌, ◌++◌, map, drop}
use Rattle.c_tree.specs.View.{item_of}
use Rattle.c_meaning.specs.Checks.Limits.{file_objects}
use Rattle.c_meaning.specs.Declarations.{objects_of}
use Rattle.c_meaning.proofs.file_scope.declarations.Given as goal

abbrev pub invariant-loop-item : goal.invariant-loop-item
invariant-loop-item l =
    objects_of l.all.items ++ file_objects (map item_of (drop l.item-index l.items)) ≡ file_objects (map item_of l.items)
