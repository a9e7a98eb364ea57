use Rattle.std.proofs.Common.{◌≡◌, ◌++◌, [], drop, map}
use Rattle.c_tree.specs.View.{item_of}
use Rattle.c_meaning.specs.Checks.Limits.{new_function_places}
use Rattle.c_names.proofs.declarations.arrays.function_places.Given as goal

abbrev pub invariant-loop-item : goal.invariant-loop-item
invariant-loop-item l = l.places.items ++ new_function_places l.known.items (map item_of (drop l.item-index l.items)) ≡ new_function_places [] (map item_of l.items)
