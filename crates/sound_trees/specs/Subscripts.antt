-- Pieces in which each element has as many subscripts as its array has dimensions.
use Rattle.std.specs.Prelude.{◌≡◌, ℕ, suc, List, length, slice_get, Some}
use Rattle.hls_base.specs.declared.number.ArrayId.{ArrayId}
use Rattle.pieces.specs.Trees as tree
use Rattle.pieces.specs.Trees.{PureTree, PureTrees, PieceTree, PieceTrees}
use Rattle.pieces.specs.Program.{ArrayTree}

abbrev pub count : PureTrees → ℕ
count tree.none = 0
count (tree.more first rest) = suc (count rest)

-- the array is there, and has so many dimensions
abbrev pub HasDimensions : List ArrayTree → ArrayId → ℕ → Type 0
HasDimensions arrays array n = (a : ArrayTree) × (slice_get arrays array.0 ≡ Some a) × (n ≡ length a.lengths)

module _ (arrays : List ArrayTree) where
  -- in an expression
  abbrev mutual
    pub SubscriptsFit : PureTree → Type 0
    SubscriptsFit (tree.element array subscripts k at) = HasDimensions arrays array (count subscripts) × AllSubscriptsFit subscripts
    SubscriptsFit (tree.unary op arg k at) = SubscriptsFit arg
    SubscriptsFit (tree.binary op left right k at) = SubscriptsFit left × SubscriptsFit right
    SubscriptsFit (tree.choice test left right k) = SubscriptsFit test × SubscriptsFit left × SubscriptsFit right
    SubscriptsFit (tree.cast to arg) = SubscriptsFit arg
    SubscriptsFit x = Unit {0}

    pub AllSubscriptsFit : PureTrees → Type 0
    AllSubscriptsFit tree.none = Unit {0}
    AllSubscriptsFit (tree.more first rest) = SubscriptsFit first × AllSubscriptsFit rest

  abbrev mutual
    pub PieceSubscriptsFit : PieceTree → Type 0
    PieceSubscriptsFit (tree.set name value) = SubscriptsFit value
    PieceSubscriptsFit (tree.put array subscripts value at) = HasDimensions arrays array (count subscripts) × AllSubscriptsFit subscripts × SubscriptsFit value
    PieceSubscriptsFit (tree.fork test left right end) = SubscriptsFit test × PiecesSubscriptsFit left × PiecesSubscriptsFit right
    PieceSubscriptsFit (tree.repeat_ id post before test body step end) = PiecesSubscriptsFit before × SubscriptsFit test × PiecesSubscriptsFit body × PiecesSubscriptsFit step
    PieceSubscriptsFit (tree.pick test labels body end) = SubscriptsFit test × PiecesSubscriptsFit body
    PieceSubscriptsFit piece = Unit {0}

    pub PiecesSubscriptsFit : PieceTrees → Type 0
    PiecesSubscriptsFit tree.no_pieces = Unit {0}
    PiecesSubscriptsFit (tree.then_ piece rest) = PieceSubscriptsFit piece × PiecesSubscriptsFit rest
