use Rattle.std.proofs.Common.{◌≡◌, ◌++◌, drop, map}
use Rattle.std.specs.Option.{option_map}
use Rattle.c_tree.specs.View.{tree_of}
use Rattle.c_tree.specs.StatementRows as rows
use Rattle.c_tree.proofs.print.object.push_lengths.Given as goal

abbrev pub invariant-loop-length : goal.invariant-loop-length
invariant-loop-length l =
    l.row.items ++ rows.lengths_row (map (option_map tree_of) (drop l.length-index l.lengths)) ≡ l.fn.row.items ++ rows.lengths_row (map (option_map tree_of) l.lengths)
