use Rattle.std.proofs.Common.{◌≡◌, ◌++◌, drop, map}
use Rattle.std.specs.Option.{option_map}
use Rattle.c_tree.specs.View.{tree_of}
use Rattle.c_meaning.specs.Checks.Recursion.{lengths_calls}
use Rattle.c_calls.proofs.called.add_lengths_calls.Given as goal

abbrev pub invariant-loop-length : goal.invariant-loop-length
invariant-loop-length l = l.calls.items ++ lengths_calls l.names (map (option_map tree_of) (drop l.length-index l.lengths)) ≡ l.initial.calls.items ++ lengths_calls l.names (map (option_map tree_of) l.lengths)
