use Rattle.std.proofs.Common.{◌≡◌, map, drop}
use Rattle.pieces.specs.View.{pure_of}
use Rattle.c_expand.specs.Statements.{subscripts_at}
use Rattle.c_expand.proofs.Subscripts.{behind_row}
use Rattle.c_expand.proofs.declarations.subscripts_at.Given as goal

abbrev pub invariant-loop-i : goal.invariant-loop-i
invariant-loop-i l = behind_row (map pure_of l.subscripts.items) (subscripts_at (drop l.i l.lengths) l.number) ≡ subscripts_at l.lengths l.number
