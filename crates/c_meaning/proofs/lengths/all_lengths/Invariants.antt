use Rattle.std.proofs.Common.{◌≡◌, ◌<◌, map, drop}
use Rattle.std.specs.List.{All}
use Rattle.std.specs.Option.{option_map}
use Rattle.c_tree.specs.View.{object_of, tree_of}
use Rattle.c_meaning.specs.Checks.Lengths.{usable, all_lengths, lengths_of, all_usable}
use Rattle.c_meaning.proofs.DimensionLengths.{before}
use Rattle.c_meaning.proofs.lengths.all_lengths.Given as goal

abbrev pub invariant-loop-length : goal.invariant-loop-length
invariant-loop-length l = record {
  rest : all_usable (map usable (lengths_of (object_of l.o))) ≡ before l.all.items (all_usable (map usable (all_lengths l.items (map (option_map tree_of) (drop l.length-index l.o.lengths.items)))));
  positive : All (λ n. 0 < n) l.all.items;
}
