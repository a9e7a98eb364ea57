-- Forks that may become selects, loops that may be overlapped, and loops with a continue, as far as their own pieces tell; and the points that pieces begin with.
use Rattle.std.specs.Prelude.{ℕ, ◌+◌, Bool, true, false, not, ◌&&◌, ◌||◌, nat_le, Option, Some, None}
use Rattle.hls_base.specs.declared.point.Point.{Point}
use Rattle.pieces.specs.Trees as tree
use Rattle.pieces.specs.Trees.{PieceTree, PieceTrees}
use Rattle.pieces.specs.Weight.{weight, piece_weights}
use Rattle.pieces.specs.Shape.{are_marks}

-- ---- forks and loops

abbrev mutual
  -- a Set, Put, mark, or a fork that weighs at most 64 and whose branches hold only such pieces
  pub is_straight : PieceTree → Bool
  is_straight (tree.set name value) = true
  is_straight (tree.put array subscripts value at) = true
  is_straight (tree.fork test yes_ no_ end) = nat_le (1 + weight test + piece_weights yes_ + piece_weights no_) 64 && (are_straight yes_ && are_straight no_)
  is_straight (tree.land call end) = true
  is_straight (tree.mark point) = true
  is_straight piece = false

  pub are_straight : PieceTrees → Bool
  are_straight tree.no_pieces = true
  are_straight (tree.then_ first rest) = is_straight first && are_straight rest

-- a loop of `for` or `while` with nothing but marks before its test, whose test, body and step weigh at most 256
abbrev pub is_eligible : Bool → PieceTrees → ℕ → PieceTrees → PieceTrees → Bool
is_eligible post before test body step =
    not post && (are_marks before && (nat_le (test + piece_weights body + piece_weights step) 256 && (are_straight body && are_straight step)))

abbrev mutual
  -- a `Next` of the loop round these pieces
  pub continues : PieceTree → Bool
  continues tree.next_ = true
  continues (tree.fork test yes_ no_ end) = any_continues yes_ || any_continues no_
  continues (tree.pick test labels body end) = any_continues body
  continues piece = false

  pub any_continues : PieceTrees → Bool
  any_continues tree.no_pieces = false
  any_continues (tree.then_ first rest) = continues first || any_continues rest

-- ---- points

abbrev pub point_of : PieceTree → Option Point
point_of (tree.mark point) = Some point
point_of piece = None

-- the point that pieces begin with
abbrev pub first_point : PieceTrees → Option Point
first_point tree.no_pieces = None
first_point (tree.then_ first rest) = point_of first

abbrev pub or_at : Point → Option Point → Point
or_at point None = point
or_at point (Some first) = first
