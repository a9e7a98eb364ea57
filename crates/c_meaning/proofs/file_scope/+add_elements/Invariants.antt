use Rattle.std.proofs.Common.{◌≡◌, ◌++◌, ◌-◌, map, drop, length}
use Rattle.c_tree.specs.View.{inits_of}
use Rattle.c_meaning.specs.Statement.{rows_of}
use Rattle.c_meaning.specs.Run.{constant_item}
use Rattle.c_meaning.proofs.file_scope.+add_elements.Given as goal

abbrev pub invariant-loop-item : goal.invariant-loop-item
invariant-loop-item l =
    l.elements.items ++ map (constant_item l.kind) (rows_of (l.len - l.item-index) l.inner (inits_of (drop l.item-index l.items.items))) ≡ l.initial.elements.items ++ map (constant_item l.kind) (rows_of l.len l.inner (inits_of l.items.items))

abbrev pub decreases-add_elements : goal.decreases-add_elements
decreases-add_elements l = length l.lengths.now
