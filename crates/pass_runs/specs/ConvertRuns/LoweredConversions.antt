-- What is known of lowered trees that are converted.
pub mod Suiting
pub mod PiecePoints
pub mod Examples
use Rattle.std.specs.Prelude.{◌≡◌, Bool, true, ◌∷◌}
use Rattle.hls_base.specs.declared.point.Point.{Point}
use Rattle.pieces.specs.Trees.{PieceTrees}
use Rattle.ir_core.specs.Trees.{SequenceTree}
use Rattle.passes.specs.Lowering.Shapes.{are_straight}
use Rattle.passes.specs.Lowering.Blocks.{Scope, begun}
use Rattle.passes.specs.Lowering.{last, lowered, with_copies}
use Rattle.passes.specs.Numbering as n
use Rattle.passes.specs.Numbering.{numbered_sequence}
use Rattle.pass_runs.specs.ConvertRuns.Typed.{SequenceIsTyped}
use Rattle.passes.specs.Conversion as c
use Rattle.pass_runs.specs.ConvertRuns.Forks.{HoldsForks}
use Rattle.pass_runs.specs.ConvertRuns.Points.{Keeps}
use Rattle.pass_runs.specs.ConvertRuns.ConvertedTrees.Points.{live_points, AreApart, stays_in}
use Rattle.pass_runs.specs.ConvertRuns.LoweredConversions.PiecePoints.{points_in}
use Rattle.pass_runs.specs.ConvertRuns.LoweredConversions.Suiting.{widths_of, words_of, PiecesSuit, NoCallEnds}

-- Operands are there and have their widths, and sides, bodies and arms do not end by a test: what conversion takes for granted.
abbrev pub LoweredIsTyped : Type 0
LoweredIsTyped = (scope : Scope) (pieces : PieceTrees) (point : Point) → PiecesSuit scope pieces → SequenceIsTyped (widths_of scope) (words_of scope) (lowered scope pieces last (begun point))

abbrev pub NumberedLoweredIsTyped : Type 0
NumberedLoweredIsTyped = (scope : Scope) (apart : Bool) (pieces : PieceTrees) (point : Point) → PiecesSuit scope pieces
    → SequenceIsTyped (widths_of scope) (words_of scope) (numbered_sequence (record { widths = widths_of scope; apart = apart }) (lowered scope pieces last (begun point)))

-- the blocks of a body and of the step behind it, which has no blocks of its own, with copies or without
abbrev pub body_blocks : Scope → Bool → PieceTrees → PieceTrees → Point → SequenceTree
body_blocks scope copies body step point = with_copies copies scope (lowered scope body (λ b. lowered scope step last b) (begun point))

-- Where all pieces are straight and no call ends among them, convertible forks alone stand between the blocks.
abbrev pub StraightHoldsForks : Type 0
StraightHoldsForks = (scope : Scope) (copies : Bool) (body step : PieceTrees) (point : Point) → are_straight body ≡ true → are_straight step ≡ true → NoCallEnds body → NoCallEnds step → HoldsForks (body_blocks scope copies body step point)

abbrev pub NumberedStraightHoldsForks : Type 0
NumberedStraightHoldsForks = (scope : Scope) (numbering : n.Scope) (copies : Bool) (body step : PieceTrees) (point : Point) → are_straight body ≡ true → are_straight step ≡ true → NoCallEnds body → NoCallEnds step
    → HoldsForks (numbered_sequence numbering (body_blocks scope copies body step point))

-- The points of the blocks are those of the pieces.
abbrev pub LoweredPoints : Type 0
LoweredPoints = (scope : Scope) (pieces : PieceTrees) (point : Point) → live_points (lowered scope pieces last (begun point)) ≡ point ∷ points_in pieces

-- So in the numbered tree each point is kept or dropped as conversion asks, where no two points of the pieces are the same.
abbrev pub NumberedLoweredKeeps : Type 0
NumberedLoweredKeeps = (scope : Scope) (numbering : n.Scope) (conversion : c.Scope) (pieces : PieceTrees) (point : Point) → AreApart (point ∷ points_in pieces)
    → Keeps (stays_in conversion (numbered_sequence numbering (lowered scope pieces last (begun point)))) conversion true (numbered_sequence numbering (lowered scope pieces last (begun point)))
