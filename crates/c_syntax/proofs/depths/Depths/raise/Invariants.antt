use Rattle.std.proofs.Common.{◌-◌, List, length}
use Rattle.c_syntax.specs.Notes.{Noted, Shows}
use Rattle.c_syntax.proofs.Holding.{Raising}
use Rattle.c_syntax.proofs.depths.Depths.raise.Given as goal

abbrev pub invariant-loop-i : goal.invariant-loop-i
invariant-loop-i l = (noted : List Noted) → Shows l.initial.self.nestings.items l.initial.self.beyond noted → Raising l.fn.first l.i l.self.nestings.items l.self.beyond noted

abbrev pub decreases-loop-i : goal.decreases-loop-i
decreases-loop-i l = length l.self.nestings.items - l.i
