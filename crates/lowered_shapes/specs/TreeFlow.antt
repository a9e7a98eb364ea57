-- What is known of the trees of a program, from the lowered one to the converted one.
use Rattle.std.specs.Prelude.{◌≡◌, ℕ, Bool, true, false, List, [], ◌∷◌}
use Rattle.hls_base.specs.declared.point.Point.{Point}
use Rattle.pieces.specs.Trees.{PieceTrees}
use Rattle.ir_core.specs.Bodies.{Words}
use Rattle.ir_core.specs.Trees.{SequenceTree}
use Rattle.ir_core.specs.TreeRuns.{sequence_run}
use Rattle.passes.specs.Lowering.Shapes.{are_straight}
use Rattle.passes.specs.Lowering.Blocks.{Scope, begun}
use Rattle.passes.specs.Lowering.{last, lowered}
use Rattle.passes.specs.Numbering.{numbered_sequence}
use Rattle.passes.specs.Conversion.Merging.{is_only}
use Rattle.passes.specs.Conversion.{converted_sequence}
use Rattle.pass_runs.specs.ConvertRuns.Kept.{IsSameRun}
use Rattle.pass_runs.specs.ConvertRuns.Typed.{Fits}
use Rattle.ir_layout.specs.WellFormed.{IsWellFormed}
use Rattle.pass_runs.specs.LowerRuns.LoweredTrees.Fitting.{PiecesFit}
use Rattle.pass_runs.specs.ConvertRuns.ConvertedTrees.Points.{AreApart, stays_in}
use Rattle.pass_runs.specs.ConvertRuns.LoweredConversions.Suiting.{widths_of, words_of, PiecesSuit, NoCallEnds}
use Rattle.pass_runs.specs.ConvertRuns.LoweredConversions.PiecePoints.{points_in}
use Rattle.pass_runs.specs.ConvertRuns.LoweredConversions.{body_blocks}

-- the lowered tree of pieces that begin at a point, the numbered one, and the converted one, in which loops may be overlapped
abbrev pub lowered_tree : Scope → PieceTrees → Point → SequenceTree
lowered_tree scope pieces point = lowered scope pieces last (begun point)

abbrev pub numbered_tree : Scope → Bool → SequenceTree → SequenceTree
numbered_tree scope apart blocks = numbered_sequence (record { widths = widths_of scope; apart = apart }) blocks

abbrev pub converted_tree : Scope → Bool → SequenceTree → SequenceTree
converted_tree scope loops blocks = converted_sequence (record { widths = widths_of scope; loops = loops }) blocks

-- The converted tree has the run of the lowered one without the points of blocks that are merged, from all contents that have their widths, where the expressions have the types of what they name and no two points of the pieces are the same.
abbrev pub ConversionKeepsRuns : Type 0
ConversionKeepsRuns = (scope : Scope) (dims : List (List ℕ)) (apart loops : Bool) (pieces : PieceTrees) (point : Point) → PiecesSuit scope pieces → AreApart (point ∷ points_in pieces)
    → (t : Words) → Fits (widths_of scope) (words_of scope) t
    → IsSameRun (stays_in (record { widths = widths_of scope; loops = loops }) (numbered_tree scope apart (lowered_tree scope pieces point))) (λ w u. Fits (widths_of scope) (words_of scope) u)
    (λ n. sequence_run (record { widths = widths_of scope; dims = dims }) (lowered_tree scope pieces point) t n)
    (λ n. sequence_run (record { widths = widths_of scope; dims = dims }) (converted_tree scope loops (numbered_tree scope apart (lowered_tree scope pieces point))) t n)

-- Each block is left as what stands behind it asks.
abbrev pub ConvertedTreesAreWellFormed : Type 0
ConvertedTreesAreWellFormed = (scope : Scope) (apart loops : Bool) (pieces : PieceTrees) (point : Point) → PiecesFit (record { leave = false; again = false; lands = [] }) pieces
    → IsWellFormed (converted_tree scope loops (numbered_tree scope apart (lowered_tree scope pieces point)))

-- The blocks of straight pieces, and of a step behind them, become one block that leads on, where no call ends among them.
abbrev pub StraightBecomesOne : Type 0
StraightBecomesOne = (scope : Scope) (apart loops copies : Bool) (body step : PieceTrees) (point : Point) → are_straight body ≡ true → are_straight step ≡ true → NoCallEnds body → NoCallEnds step
    → is_only (converted_tree scope loops (numbered_tree scope apart (body_blocks scope copies body step point))) ≡ true
