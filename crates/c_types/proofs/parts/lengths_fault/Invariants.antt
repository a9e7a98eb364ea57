use Rattle.std.proofs.Common.{◌≡◌, drop, map}
use Rattle.std.specs.Option.{option_map}
use Rattle.c_tree.specs.View.{tree_of}
use Rattle.c_meaning.specs.Checks.Faults.{lesser, least}
use Rattle.c_meaning.specs.Checks.Expressions.{lengths_faults}
use Rattle.c_types.proofs.parts.lengths_fault.Given as goal

abbrev pub invariant-loop-length : goal.invariant-loop-length
invariant-loop-length l = lesser l.worst (least (lengths_faults l.bodies l.names (map (option_map tree_of) (drop l.length-index l.lengths)))) ≡ least (lengths_faults l.bodies l.names (map (option_map tree_of) l.lengths))
