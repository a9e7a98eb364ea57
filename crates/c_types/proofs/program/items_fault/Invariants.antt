use Rattle.std.proofs.Common.{◌≡◌, [], drop, map}
use Rattle.c_tree.specs.View.{item_of}
use Rattle.c_meaning.specs.Checks.Faults.{lesser, least}
use Rattle.c_meaning.specs.Checks.Programs.{items_faults}
use Rattle.c_types.proofs.program.items_fault.Given as goal

abbrev pub invariant-loop-item : goal.invariant-loop-item
invariant-loop-item l = lesser l.worst (least (items_faults l.bodies l.before.items l.names (map item_of (drop l.item-index l.items)))) ≡ least (items_faults l.bodies [] [] (map item_of l.items))
