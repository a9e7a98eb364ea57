-- Pieces of which those that may be merged hold no end of a call.
use Rattle.std.specs.Prelude.{◌≡◌, true}
use Rattle.pieces.specs.Trees as tree
use Rattle.pieces.specs.Trees.{PieceTree, PieceTrees}
use Rattle.pieces.specs.Weight.{weight}
use Rattle.passes.specs.Lowering.Shapes.{is_straight, is_eligible}
use Rattle.pass_runs.specs.ConvertRuns.LoweredConversions.Suiting.{NoCallEnds}

-- No call ends in a straight fork or in a loop that may be overlapped.
abbrev mutual
  pub EndsNoStraightCall : PieceTree → Type 0
  EndsNoStraightCall (tree.fork test left right end) =
      (is_straight (tree.fork test left right end) ≡ true → NoCallEnds left × NoCallEnds right) × NoStraightCallEnds left × NoStraightCallEnds right
  EndsNoStraightCall (tree.repeat_ id post before test body step end) =
      (is_eligible post before (weight test) body step ≡ true → NoCallEnds before × NoCallEnds body × NoCallEnds step) × NoStraightCallEnds before × NoStraightCallEnds body × NoStraightCallEnds step
  EndsNoStraightCall (tree.pick test labels body end) = NoStraightCallEnds body
  EndsNoStraightCall piece = Unit {0}

  pub NoStraightCallEnds : PieceTrees → Type 0
  NoStraightCallEnds tree.no_pieces = Unit {0}
  NoStraightCallEnds (tree.then_ first rest) = EndsNoStraightCall first × NoStraightCallEnds rest
