use Rattle.std.proofs.Common.{◌≡◌, ◌++◌, [], drop, map}
use Rattle.c_tree.specs.View.{item_of}
use Rattle.c_meaning.specs.Checks.Recursion.{callers}
use Rattle.c_calls.proofs.called.callers_of.Given as goal

abbrev pub invariant-loop-item : goal.invariant-loop-item
invariant-loop-item l = l.callers.items ++ callers l.names (map item_of (drop l.item-index l.items)) ≡ callers [] (map item_of l.items)
