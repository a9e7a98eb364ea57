use Rattle.std.proofs.Common.{◌≡◌, ◌+◌, ◌↔◌, drop}
use Rattle.pieces.specs.View.{pieces_of}
use Rattle.pieces.specs.Weight.{piece_weights}
use Rattle.pieces.specs.Shape.{AreStraight}
use Rattle.pieces.proofs.shape.+straight.Given as goal

abbrev pub invariant-rest_after_branch-loop-piece : goal.invariant-rest_after_branch-loop-piece
invariant-rest_after_branch-loop-piece l = record {
  room : l.rest + piece_weights (pieces_of l.pieces.items) ≡ l.room + piece_weights (pieces_of (drop l.piece-index l.pieces.items));
  rest : AreStraight (pieces_of l.pieces.items) ↔ AreStraight (pieces_of (drop l.piece-index l.pieces.items));
}
