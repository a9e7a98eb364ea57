use Rattle.std.proofs.Common.{◌≡◌, ◌++◌, drop, map}
use Rattle.c_tree.specs.View.{object_of}
use Rattle.c_meaning.specs.Checks.Limits.{array_places}
use Rattle.c_names.proofs.declarations.arrays.add_arrays.Given as goal

abbrev pub invariant-loop-object : goal.invariant-loop-object
invariant-loop-object l = l.places.items ++ array_places (map object_of (drop l.object-index l.objects)) ≡ l.initial.places.items ++ array_places (map object_of l.objects)
