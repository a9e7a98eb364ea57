-- The points of pieces: those at which blocks begin, and those of marks at which none does.
use Rattle.std.specs.Prelude.{◌≡◌, ℕ, ◌+◌, Bool, true, false, not, List, [], ◌∷◌, ◌++◌, ◌||◌, if◌then◌else◌}
use Rattle.hls_base.specs.declared.point.Point.{Point}
use Rattle.hls_base.specs.Tallies.{same_point}
use Rattle.pieces.specs.declared.piece.Label.{Label}
use Rattle.pieces.specs.Trees as tree
use Rattle.pieces.specs.Trees.{PieceTree, PieceTrees}
use Rattle.passes.specs.Lowering.Shapes.{any_continues}
use Rattle.passes.specs.Lowering.{is_named}

-- the point, where such points are listed
abbrev pub listed_if : Bool → Point → List Point
listed_if listed point = if listed then point ∷ [] else []

-- of a piece that is the first of an arm, or is not
abbrev pub arm_by : Bool → Bool → PieceTree → List Point → List Point
arm_by begins true (tree.mark point) others = listed_if begins point
arm_by begins named piece others = others

abbrev mutual
  -- the points at which blocks begin, or those of other marks
  pub points_in : Bool → PieceTree → List Point
  points_in begins (tree.fork test yes_ no_ end) = first_points begins yes_ ++ (first_points begins no_ ++ listed_if begins end)
  points_in begins (tree.repeat_ id post before test body step end) =
      first_points begins before ++ (first_points begins body ++ ((if any_continues body then first_points begins step else points_of begins step) ++ listed_if begins end))
  points_in begins (tree.pick test labels body end) = arm_points begins labels 0 body ++ listed_if begins end
  points_in begins (tree.land call end) = listed_if begins end
  points_in begins (tree.mark point) = listed_if (not begins) point
  points_in begins piece = []

  -- of pieces that go on in a block
  pub points_of : Bool → PieceTrees → List Point
  points_of begins tree.no_pieces = []
  points_of begins (tree.then_ piece rest) = points_in begins piece ++ points_of begins rest

  -- of pieces that begin a block
  pub first_points : Bool → PieceTrees → List Point
  first_points begins tree.no_pieces = []
  first_points begins (tree.then_ (tree.mark point) rest) = listed_if begins point ++ points_of begins rest
  first_points begins (tree.then_ piece rest) = points_in begins piece ++ points_of begins rest

  -- in a switch, from the piece with this number on
  pub arm_points : Bool → List Label → ℕ → PieceTrees → List Point
  arm_points begins labels i tree.no_pieces = []
  arm_points begins labels i (tree.then_ piece rest) = arm_by begins (is_named labels i) piece (points_in begins piece) ++ arm_points begins labels (i + 1) rest

abbrev pub begin_points : PieceTrees → List Point
begin_points pieces = first_points true pieces

abbrev pub dropped_points : PieceTrees → List Point
dropped_points pieces = first_points false pieces

abbrev pub EachPoint : (Point → Type 0) → List Point → Type 0
EachPoint P [] = Unit {0}
EachPoint P (point ∷ points) = P point × EachPoint P points

-- The points at which blocks begin are kept, and those of other marks are not.
pub record KeepsBegun (kept : Point → Bool) (pieces : PieceTrees) : Type 0 where
  pub begun : EachPoint (λ point. kept point ≡ true) (begin_points pieces)
  pub dropped : EachPoint (λ point. kept point ≡ false) (dropped_points pieces)

abbrev pub is_among : List Point → Point → Bool
is_among [] q = false
is_among (point ∷ points) q = same_point point q || is_among points q

-- the points that are kept: those at which blocks begin
abbrev pub begins_at : PieceTrees → Point → Bool
begins_at pieces = is_among (begin_points pieces)

-- No block begins at the point of another mark.
abbrev pub MarksDiffer : PieceTrees → Type 0
MarksDiffer pieces = EachPoint (λ point. begins_at pieces point ≡ false) (dropped_points pieces)
