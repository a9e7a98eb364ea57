-- Expressions and pieces without where they lie in memory.
use Rattle.std.specs.Prelude.{ℕ, Bool, List, [], ◌∷◌}
use Rattle.hls_base.specs.declared.place.Place.{Place}
use Rattle.hls_base.specs.declared.point.Point.{Point}
use Rattle.hls_base.specs.declared.number.VarId.{VarId}
use Rattle.hls_base.specs.declared.number.ArrayId.{ArrayId}
use Rattle.hls_base.specs.declared.number.LoopId.{LoopId}
use Rattle.c_token.specs.declared.ctype.CType.{CType}
use Rattle.c_tree.specs.declared.operator.Unary.{Unary}
use Rattle.c_tree.specs.declared.operator.Binary.{Binary}
use Rattle.pieces.specs.declared.piece.CallId.{CallId}
use Rattle.pieces.specs.declared.piece.Label.{Label}

mutual
  -- an expression without calls and changes
  pub data PureTree : Type 0 where
    number : (value : ℕ) (kind : CType) → PureTree
    variable : (name : VarId) (kind : CType) → PureTree
    element : (array : ArrayId) (subscripts : PureTrees) (kind : CType) (at : Place) → PureTree
    unary : (op : Unary) (arg : PureTree) (kind : CType) (at : Place) → PureTree
    binary : (op : Binary) (left right : PureTree) (kind : CType) (at : Place) → PureTree
    choice : (test left right : PureTree) (kind : CType) → PureTree
    cast : (to : CType) (arg : PureTree) → PureTree

  -- the subscripts of an element
  pub data PureTrees : Type 0 where
    none : PureTrees
    more : (first : PureTree) (rest : PureTrees) → PureTrees

-- the same expressions in a row
abbrev pub row : List PureTree → PureTrees
row [] = none
row (tree ∷ trees) = more tree (row trees)

mutual
  -- a piece of an expanded program
  pub data PieceTree : Type 0 where
    set : (name : VarId) (value : PureTree) → PieceTree
    put : (array : ArrayId) (subscripts : PureTrees) (value : PureTree) (at : Place) → PieceTree
    fork : (test : PureTree) (left right : PieceTrees) (end : Point) → PieceTree
    repeat_ : (id : LoopId) (post : Bool) (before : PieceTrees) (test : PureTree) (body step : PieceTrees) (end : Point) → PieceTree
    pick : (test : PureTree) (labels : List Label) (body : PieceTrees) (end : Point) → PieceTree
    break_ : PieceTree
    next_ : PieceTree
    leave : (call : CallId) → PieceTree
    land : (call : CallId) (end : Point) → PieceTree
    mark : (point : Point) → PieceTree

  -- pieces one after another
  pub data PieceTrees : Type 0 where
    no_pieces : PieceTrees
    then_ : (first : PieceTree) (rest : PieceTrees) → PieceTrees

-- the same pieces in a row
abbrev pub piece_row : List PieceTree → PieceTrees
piece_row [] = no_pieces
piece_row (piece ∷ pieces) = then_ piece (piece_row pieces)
