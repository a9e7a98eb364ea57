use Rattle.std.proofs.Common.{List, take}
use Rattle.c_tree.specs.Terminals.{terminals}
use Rattle.c_syntax.specs.Notes.{Shows}
use Rattle.c_syntax.proofs.Noting.{Noted, thins}
use Rattle.c_syntax.proofs.Faults.{Known}
use Rattle.c_syntax.proofs.find_fault.Given as goal

abbrev pub invariant-loop-index : goal.invariant-loop-index
invariant-loop-index l = (noted : List Noted) × Known (take l.index (terminals l.tokens)) l.stack l.count noted × Shows l.depths.nestings.items l.depths.beyond (thins noted)
