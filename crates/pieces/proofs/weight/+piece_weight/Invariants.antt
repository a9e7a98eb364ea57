use Rattle.std.proofs.Common.{◌≡◌, ◌+◌, drop}
use Rattle.pieces.specs.View.{pieces_of}
use Rattle.pieces.specs.Weight.{piece_weights}
use Rattle.pieces.proofs.weight.+piece_weight.Given as goal

abbrev pub invariant-rest_after_pieces-loop-piece : goal.invariant-rest_after_pieces-loop-piece
invariant-rest_after_pieces-loop-piece l = l.rest + piece_weights (pieces_of l.pieces.items) ≡ l.room + piece_weights (pieces_of (drop l.piece-index l.pieces.items))
