-- What expressions and pieces weigh.
use Rattle.std.specs.Prelude.{ℕ, ◌+◌, List, [], ◌∷◌, length}
use Rattle.hls_base.specs.declared.place.Place.{Place}
use Rattle.hls_base.specs.declared.point.Point.{Point}
use Rattle.hls_base.specs.declared.point.PointKind.{PointKind}
use Rattle.hls_base.specs.declared.point.PointKind.TheVariants as k
use Rattle.pieces.specs.Trees as tree
use Rattle.pieces.specs.Trees.{PureTree, PureTrees, PieceTree, PieceTrees}

abbrev mutual
  -- an expression weighs 1 for each of its nodes
  pub weight : PureTree → ℕ
  weight (tree.number value kind) = 1
  weight (tree.variable name kind) = 1
  weight (tree.element array subscripts kind at) = 1 + weights subscripts
  weight (tree.unary op arg kind at) = 1 + weight arg
  weight (tree.binary op left right kind at) = 1 + weight left + weight right
  weight (tree.choice test left right kind) = 1 + weight test + weight left + weight right
  weight (tree.cast to arg) = 1 + weight arg

  pub weights : PureTrees → ℕ
  weights tree.none = 0
  weights (tree.more first rest) = weight first + weights rest

-- a mark weighs nothing, but for the Begin of a call, which stands for the call; the top function, whose path is empty, is none
abbrev pub call_weight : PointKind → List Place → ℕ
call_weight k.Begin [] = 0
call_weight k.Begin (at ∷ path) = 1
call_weight k.Test path = 0
call_weight k.Body path = 0
call_weight k.Step path = 0
call_weight k.End path = 0
call_weight k.Arm path = 0

abbrev pub mark_weight : Point → ℕ
mark_weight point = call_weight point.kind point.path

abbrev mutual
  -- a piece weighs 1 and what is in it
  pub piece_weight : PieceTree → ℕ
  piece_weight (tree.set name value) = 1 + weight value
  piece_weight (tree.put array subscripts value at) = 1 + weights subscripts + weight value
  piece_weight (tree.fork test left right end) = 1 + weight test + piece_weights left + piece_weights right
  piece_weight (tree.repeat_ id post before test body step end) = 1 + piece_weights before + weight test + piece_weights body + piece_weights step
  piece_weight (tree.pick test labels body end) = 1 + length labels + weight test + piece_weights body
  piece_weight tree.break_ = 1
  piece_weight tree.next_ = 1
  piece_weight (tree.leave call) = 1
  piece_weight (tree.land call end) = mark_weight end
  piece_weight (tree.mark point) = mark_weight point

  pub piece_weights : PieceTrees → ℕ
  piece_weights tree.no_pieces = 0
  piece_weights (tree.then_ first rest) = piece_weight first + piece_weights rest
