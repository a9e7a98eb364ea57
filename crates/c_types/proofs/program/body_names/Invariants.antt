use Rattle.std.proofs.Common.{◌≡◌, ◌++◌, drop, map}
use Rattle.c_tree.specs.View.{item_of}
use Rattle.c_meaning.specs.Checks.Programs.{body_names}
use Rattle.c_types.proofs.program.body_names.Given as goal

abbrev pub invariant-loop-item : goal.invariant-loop-item
invariant-loop-item l = l.names.items ++ body_names (map item_of (drop l.item-index l.items)) ≡ body_names (map item_of l.items)
