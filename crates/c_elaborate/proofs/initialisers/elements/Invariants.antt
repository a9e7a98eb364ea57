use Rattle.std.proofs.Common.{◌≡◌, ◌++◌, map, drop}
use Rattle.std.specs.Option.{option_map}
use Rattle.pieces.specs.Resolved.CoreView.{core_of}
use Rattle.c_elaborate.specs.Expressions.{elaborated}
use Rattle.c_elaborate.specs.Items.{trees_in}
use Rattle.c_elaborate.proofs.initialisers.elements.Given as goal

abbrev pub invariant-loop-item : goal.invariant-loop-item
invariant-loop-item l =
    map (option_map core_of) l.all.items ++ map (option_map (elaborated l.functions l.names)) (trees_in (drop l.item-index l.items)) ≡ map (option_map (elaborated l.functions l.names)) (trees_in l.items)
