-- Something of each expression of pieces, and of each variable that is set.
use Rattle.hls_base.specs.declared.number.VarId.{VarId}
use Rattle.pieces.specs.Trees as tree
use Rattle.pieces.specs.Trees.{PureTree, PureTrees, PieceTree, PieceTrees}

module _ (Fine : PureTree → Type 0) (There : VarId → Type 0) where
  abbrev pub EachFine : PureTrees → Type 0
  EachFine tree.none = Unit {0}
  EachFine (tree.more first rest) = Fine first × EachFine rest

  abbrev mutual
    pub IsMade : PieceTree → Type 0
    IsMade (tree.set name value) = There name × Fine value
    IsMade (tree.put array subscripts value at) = EachFine subscripts × Fine value
    IsMade (tree.fork test yes_ no_ end) = Fine test × AreMade yes_ × AreMade no_
    IsMade (tree.repeat_ id post before test body step end) = Fine test × AreMade before × AreMade body × AreMade step
    IsMade (tree.pick test labels body end) = Fine test × AreMade body
    IsMade piece = Unit {0}

    pub AreMade : PieceTrees → Type 0
    AreMade tree.no_pieces = Unit {0}
    AreMade (tree.then_ piece rest) = IsMade piece × AreMade rest
