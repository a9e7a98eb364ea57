use Rattle.std.proofs.Common.{◌≡◌, drop}
use Rattle.c_meaning.specs.Checks.Faults.{lesser, least}
use Rattle.c_meaning.specs.Checks.Conflicts.{between}
use Rattle.c_names.proofs.conflicts.conflicts.between_each.Given as goal

abbrev pub invariant-loop-i : goal.invariant-loop-i
invariant-loop-i l = lesser l.worst (least (between (drop l.i l.these) l.others)) ≡ least (between l.these l.others)
