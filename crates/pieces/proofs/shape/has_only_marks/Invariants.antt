use Rattle.std.proofs.Common.{◌≡◌, drop}
use Rattle.pieces.specs.View.{pieces_of}
use Rattle.pieces.specs.Shape.{are_marks}
use Rattle.pieces.proofs.shape.has_only_marks.Given as goal

abbrev pub invariant-loop-piece : goal.invariant-loop-piece
invariant-loop-piece l = are_marks (pieces_of l.pieces.items) ≡ are_marks (pieces_of (drop l.piece-index l.pieces.items))
