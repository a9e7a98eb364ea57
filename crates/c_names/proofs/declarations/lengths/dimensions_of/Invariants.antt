use Rattle.std.proofs.Common.{◌≡◌, ◌++◌, ◌||◌, drop, map}
use Rattle.std.specs.List.{list_any}
use Rattle.std.specs.Option.{option_map}
use Rattle.c_tree.specs.View.{tree_of, object_of}
use Rattle.c_meaning.specs.Checks.Lengths.{lengths_of, all_lengths, usable, is_out_of_range, is_no_constant}
use Rattle.c_names.proofs.declarations.lengths.dimensions_of.Given as goal

abbrev pub invariant-loop-written : goal.invariant-loop-written
invariant-loop-written l = record {
  usable : l.found.items ++ map usable (all_lengths l.items (map (option_map tree_of) (drop l.written-index l.written-items))) ≡ map usable (lengths_of (object_of l.o));
  out_of_range : (l.out_of_range || list_any is_out_of_range (all_lengths l.items (map (option_map tree_of) (drop l.written-index l.written-items)))) ≡ list_any is_out_of_range (lengths_of (object_of l.o));
  no_constant : (l.no_constant || list_any is_no_constant (all_lengths l.items (map (option_map tree_of) (drop l.written-index l.written-items)))) ≡ list_any is_no_constant (lengths_of (object_of l.o));
}
