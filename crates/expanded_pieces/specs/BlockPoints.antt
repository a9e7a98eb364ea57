-- What is known of the points of blocks.
use Rattle.std.specs.Prelude.{◌≡◌, Bool, [], Some}
use Rattle.hls_base.specs.declared.point.Point.{Point}
use Rattle.pieces.specs.Trees.{PieceTrees}
use Rattle.c_meaning.specs.PieceRuns.Pieces.{Frame}
use Rattle.passes.specs.Lowering.Shapes.{first_point}
use Rattle.passes.specs.Lowering.Blocks.{Scope, begun}
use Rattle.passes.specs.Lowering.{last, lowered}
use Rattle.pass_runs.specs.LowerRuns.Holding.{none_hidden}
use Rattle.pass_runs.specs.LowerRuns.Suiting.{BeginSuits}
use Rattle.pass_runs.specs.ConvertRuns.ConvertedTrees.Points as blocks
use Rattle.pass_runs.specs.ConvertRuns.ConvertedTrees.Points.{live_points}
use Rattle.expanded_pieces.specs.ApartPoints.Apart.{AreApart}
use Rattle.expanded_pieces.specs.ApartPoints.Points.{all_points}

-- No two blocks that pieces are lowered to begin at the same point, where blocks begin at marks and no point stands twice among the pieces.
abbrev pub SuitingPointsDiffer : Type 0
SuitingPointsDiffer = (f : Frame) (kept : Point → Bool) (scope : Scope) (pieces : PieceTrees) (point : Point) → first_point pieces ≡ Some point → BeginSuits f kept [] none_hidden pieces → AreApart (all_points pieces)
    → blocks.AreApart (live_points (lowered scope pieces last (begun point)))
