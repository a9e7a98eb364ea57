-- The points of the blocks that pieces become, in order.
use Rattle.std.specs.Prelude.{ℕ, ◌+◌, List, [], ◌∷◌, ◌++◌, Option, Some, None, if◌then◌else◌}
use Rattle.hls_base.specs.declared.point.Point.{Point}
use Rattle.pieces.specs.declared.piece.Label.{Label}
use Rattle.pieces.specs.Trees as tree
use Rattle.pieces.specs.Trees.{PieceTree, PieceTrees}
use Rattle.passes.specs.Lowering.Shapes.{first_point, or_at, point_of}
use Rattle.passes.specs.Lowering.{own_step, is_named}

-- a branch that begins at no point has no block
abbrev pub from_point : Option Point → List Point → List Point
from_point None points = []
from_point (Some point) points = point ∷ points

-- a step that has no blocks of its own goes on behind the body
abbrev pub step_behind : Option Point → List Point → List Point
step_behind None points = points
step_behind (Some point) points = []

abbrev mutual
  -- the points behind that of the open block
  pub points_in : PieceTrees → List Point
  points_in tree.no_pieces = []
  points_in (tree.then_ piece rest) = points_of piece ++ points_in rest

  pub points_of : PieceTree → List Point
  points_of (tree.fork test left right end) = (from_point (first_point left) (points_in left) ++ from_point (first_point right) (points_in right)) ++ end ∷ []
  points_of (tree.repeat_ id post before test body step end) =
      ((or_at end (first_point before) ∷ points_in before)
      ++ ((or_at end (first_point body) ∷ (points_in body ++ step_behind (own_step body (first_point step)) (points_in step))) ++ from_point (own_step body (first_point step)) (points_in step)))
      ++ end ∷ []
  points_of (tree.pick test labels body end) = points_in_arms labels 0 body end ++ end ∷ []
  points_of (tree.land call end) = end ∷ []
  points_of piece = []

  -- up to the next piece that a label names
  pub points_before : List Label → ℕ → PieceTrees → List Point
  points_before labels i tree.no_pieces = []
  points_before labels i (tree.then_ piece rest) = if is_named labels i then [] else (points_of piece ++ points_before labels (i + 1) rest)

  -- of the arms from each piece on that a label names
  pub points_in_arms : List Label → ℕ → PieceTrees → Point → List Point
  points_in_arms labels i tree.no_pieces end = []
  points_in_arms labels i (tree.then_ piece rest) end =
      if is_named labels i then ((or_at end (point_of piece) ∷ (points_of piece ++ points_before labels (i + 1) rest)) ++ points_in_arms labels (i + 1) rest end)
      else points_in_arms labels (i + 1) rest end
