-- The tree that a value of a Rust type is.
use Rattle.std.specs.Prelude.{List, map}
use Rattle.pieces.specs.Trees as tree
use Rattle.pieces.specs.Trees.{PureTree, PureTrees, row, PieceTree, PieceTrees, piece_row}
use Rattle.pieces.specs.declared.pure_expr.Pure.{Pure}
use Rattle.pieces.specs.declared.pure_expr.Pure.TheOpen.{Pure-F}
use Rattle.pieces.specs.declared.pure_expr.Pure.TheFolds.{fold-Pure}
use Rattle.pieces.specs.declared.piece.Piece.{Piece}
use Rattle.pieces.specs.declared.piece.Piece.TheOpen.{Piece-F}
use Rattle.pieces.specs.declared.piece.Piece.TheFolds.{fold-Piece}

-- one node, with its children's trees in their places
abbrev pub pure_step : Pure-F PureTree → PureTree
pure_step (Pure-F.Number value kind) = tree.number value kind
pure_step (Pure-F.Variable name kind) = tree.variable name kind
pure_step (Pure-F.Element array subscripts kind at) = tree.element array (row subscripts.items) kind at
pure_step (Pure-F.Unary op arg kind at) = tree.unary op arg.value kind at
pure_step (Pure-F.Binary op left right kind at) = tree.binary op left.value right.value kind at
pure_step (Pure-F.Choice test left right kind) = tree.choice test.value left.value right.value kind
pure_step (Pure-F.Cast to arg) = tree.cast to arg.value

abbrev pub pure_of : Pure → PureTree
pure_of = fold-Pure PureTree pure_step

abbrev pub pures_of : List Pure → PureTrees
pures_of pures = row (map pure_of pures)

-- one piece, with its children's trees in their places
abbrev pub piece_step : Piece-F PieceTree → PieceTree
piece_step (Piece-F.Set name value) = tree.set name (pure_of value)
piece_step (Piece-F.Put array subscripts value at) = tree.put array (pures_of subscripts.items) (pure_of value) at
piece_step (Piece-F.Fork test left right end) = tree.fork (pure_of test) (piece_row left.items) (piece_row right.items) end
piece_step (Piece-F.Repeat id post before test body step end) = tree.repeat_ id post (piece_row before.items) (pure_of test) (piece_row body.items) (piece_row step.items) end
piece_step (Piece-F.Pick test labels body end) = tree.pick (pure_of test) labels.items (piece_row body.items) end
piece_step Piece-F.Break = tree.break_
piece_step Piece-F.Next = tree.next_
piece_step (Piece-F.Leave call) = tree.leave call
piece_step (Piece-F.Land call end) = tree.land call end
piece_step (Piece-F.Mark point) = tree.mark point

abbrev pub piece_of : Piece → PieceTree
piece_of = fold-Piece PieceTree piece_step

abbrev pub pieces_of : List Piece → PieceTrees
pieces_of pieces = piece_row (map piece_of pieces)
