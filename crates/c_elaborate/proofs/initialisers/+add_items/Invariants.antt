use Rattle.std.proofs.Common.{◌≡◌, ◌++◌, ◌-◌, drop, length}
use Rattle.c_tree.specs.View.{inits_of}
use Rattle.c_meaning.specs.Statement.{rows_of}
use Rattle.c_elaborate.specs.Items.{trees_in}
use Rattle.c_elaborate.proofs.initialisers.+add_items.Given as goal

abbrev pub invariant-loop-row : goal.invariant-loop-row
invariant-loop-row l =
    trees_in l.items.items ++ rows_of (l.len - l.row-index) l.inner (inits_of (drop l.row-index l.rows.items)) ≡ trees_in l.initial.items.items ++ rows_of l.len l.inner (inits_of l.rows.items)

abbrev pub decreases-add_items : goal.decreases-add_items
decreases-add_items l = length l.lengths.now
