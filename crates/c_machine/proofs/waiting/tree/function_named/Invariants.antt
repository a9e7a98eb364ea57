use Rattle.std.proofs.Common.{◌≡◌, map, drop}
use Rattle.c_tree.specs.View.{item_of}
use Rattle.c_meaning.specs.Run.{function_named}
use Rattle.c_machine.proofs.waiting.tree.function_named.Given as goal

abbrev pub invariant-loop-item : goal.invariant-loop-item
invariant-loop-item l = function_named (map item_of (drop l.item-index l.items)) l.name ≡ function_named (map item_of l.items) l.name
