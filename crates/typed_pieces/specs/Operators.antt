-- Pieces whose operators have types that they may have, and whose labels are words of the promoted type of what is tested.
use Rattle.c_value.specs.Values.{promoted}
use Rattle.pieces.specs.Trees as tree
use Rattle.pieces.specs.Trees.{PureTree, PureTrees, PieceTree, PieceTrees}
use Rattle.pieces.specs.Kind.{kind}
use Rattle.valid_trees.specs.ValidLowering.Proper.{IsOfOperator, LabelsFit}

abbrev mutual
  pub PureOperates : PureTree → Type 0
  PureOperates (tree.element array subscripts k at) = EachOperates subscripts
  PureOperates (tree.unary op arg k at) = PureOperates arg
  PureOperates (tree.binary op left right k at) = IsOfOperator op k × PureOperates left × PureOperates right
  PureOperates (tree.choice test left right k) = PureOperates test × PureOperates left × PureOperates right
  PureOperates (tree.cast to arg) = PureOperates arg
  PureOperates x = Unit {0}

  pub EachOperates : PureTrees → Type 0
  EachOperates tree.none = Unit {0}
  EachOperates (tree.more first rest) = PureOperates first × EachOperates rest

abbrev mutual
  pub PieceOperates : PieceTree → Type 0
  PieceOperates (tree.set name value) = PureOperates value
  PieceOperates (tree.put array subscripts value at) = EachOperates subscripts × PureOperates value
  PieceOperates (tree.fork test left right end) = PureOperates test × PiecesOperate left × PiecesOperate right
  PieceOperates (tree.repeat_ id post before test body step end) = PiecesOperate before × PureOperates test × PiecesOperate body × PiecesOperate step
  PieceOperates (tree.pick test labels body end) = LabelsFit (promoted (kind test)) labels × PureOperates test × PiecesOperate body
  PieceOperates piece = Unit {0}

  pub PiecesOperate : PieceTrees → Type 0
  PiecesOperate tree.no_pieces = Unit {0}
  PiecesOperate (tree.then_ piece rest) = PieceOperates piece × PiecesOperate rest
