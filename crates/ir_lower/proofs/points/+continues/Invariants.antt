use Rattle.std.proofs.Common.{◌≡◌, drop}
use Rattle.pieces.specs.View.{pieces_of}
use Rattle.passes.specs.Lowering.Shapes.{any_continues}
use Rattle.ir_lower.proofs.points.+continues.Given as goal

abbrev pub invariant-any_continues-loop-piece : goal.invariant-any_continues-loop-piece
invariant-any_continues-loop-piece l = any_continues (pieces_of l.pieces.items) ≡ any_continues (pieces_of (drop l.piece-index l.pieces.items))
