use Rattle.std.proofs.Common.{◌≡◌, ◌++◌, drop, map, ◌∷◌, []}
use Rattle.std.specs.List.{flat_map}
use Rattle.c_tree.specs.View.{item_of}
use Rattle.c_tree.specs.StatementRows as rows
use Rattle.c_tree.specs.declared.print.row.Written.TheVariants as w
use Rattle.c_tree.proofs.print.item.push_program.Given as goal

abbrev pub invariant-loop-item : goal.invariant-loop-item
invariant-loop-item l =
    l.row.items ++ flat_map (λ item. rows.item_row item ++ w.Line 0 ∷ []) (map item_of (drop l.item-index l.program.items.items))
    ≡ l.fn.row.items ++ flat_map (λ item. rows.item_row item ++ w.Line 0 ∷ []) (map item_of l.program.items.items)
