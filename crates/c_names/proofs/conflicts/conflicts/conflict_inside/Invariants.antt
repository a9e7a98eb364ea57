use Rattle.std.proofs.Common.{◌≡◌, drop}
use Rattle.c_meaning.specs.Checks.Faults.{lesser, least}
use Rattle.c_meaning.specs.Checks.Conflicts.{conflicts_inside}
use Rattle.c_names.proofs.conflicts.conflicts.conflict_inside.Given as goal

abbrev pub invariant-loop-i : goal.invariant-loop-i
invariant-loop-i l = lesser l.worst (least (conflicts_inside (drop l.i l.own) l.inner)) ≡ least (conflicts_inside l.own l.inner)
