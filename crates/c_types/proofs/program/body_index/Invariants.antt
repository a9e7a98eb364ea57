use Rattle.std.proofs.Common.{◌≡◌, drop, map}
use Rattle.c_token.specs.Replacement.{is_in}
use Rattle.c_tree.specs.View.{item_of}
use Rattle.c_meaning.specs.Checks.Programs.{body_names}
use Rattle.c_types.proofs.program.body_index.Given as goal

abbrev pub invariant-loop-i : goal.invariant-loop-i
invariant-loop-i l = is_in l.name (body_names (map item_of (drop l.i l.items))) ≡ is_in l.name (body_names (map item_of l.items))
