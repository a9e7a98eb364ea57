use Rattle.std.proofs.Common.{◌≡◌, ◌||◌, map, drop}
use Rattle.pieces.specs.Resolved.Core.{stmt_row}
use Rattle.pieces.specs.Resolved.CoreView.{core_stmt_of}
use Rattle.piece_making.specs.Leaving.{any_leaves}
use Rattle.piece_making.proofs.leaving.+leaving.Given as goal

abbrev pub invariant-any_leaves-loop-i : goal.invariant-any_leaves-loop-i
invariant-any_leaves-loop-i l = (l.leave || any_leaves (stmt_row (map core_stmt_of (drop l.i l.body))) l.tail) ≡ any_leaves (stmt_row (map core_stmt_of l.body)) l.tail
