-- Operators in typed pieces have types that they may have.
use Rattle.std.proofs.Common.{subst}
use Rattle.pieces.specs.Trees as tree
use Rattle.pieces.specs.Trees.{PureTree, PureTrees, PieceTree, PieceTrees}
use Rattle.pieces.specs.Kind.{kind}
use Rattle.c_meaning.specs.PieceRuns.Pieces.{Frame}
use Rattle.pass_runs.specs.LowerRuns.Suits.{Suits, EachSuits}
use Rattle.pass_runs.specs.LowerRuns.Holding.{none_hidden}
use Rattle.valid_trees.specs.ValidLowering.Proper.{IsOfOperator}
use Rattle.valid_trees.proofs.ValidLowering.Types.{proper}
use Rattle.typed_pieces.specs.Typed.{PieceTyped, PiecesTyped}
use Rattle.typed_pieces.specs.Operators.{PureOperates, EachOperates, PieceOperates, PiecesOperate}
use Rattle.typed_pieces.specs.Laws.{TypedPiecesOperate}

module _ (f : Frame) where
  mutual
    pure_operates : (x : PureTree) → Suits f none_hidden x → PureOperates x
    pure_operates (tree.number word k) h = tt
    pure_operates (tree.variable name k) h = tt
    pure_operates (tree.element array subscripts k at) h = each_operates subscripts h.2
    pure_operates (tree.unary op arg k at) h = pure_operates arg h.2
    pure_operates (tree.binary op left right k at) h = (subst (IsOfOperator op) h.1 (proper op (kind left) (kind right)), pure_operates left h.2, pure_operates right h.3)
    pure_operates (tree.choice test left right k) h = (pure_operates test h.1, pure_operates left h.2, pure_operates right h.3)
    pure_operates (tree.cast to arg) h = pure_operates arg h.1

    each_operates : (xs : PureTrees) → EachSuits f none_hidden xs → EachOperates xs
    each_operates tree.none h = tt
    each_operates (tree.more first rest) h = (pure_operates first h.0, each_operates rest h.1)

  mutual
    piece_operates : (piece : PieceTree) → PieceTyped f piece → PieceOperates piece
    piece_operates (tree.set name value) h = pure_operates value h.1.0
    piece_operates (tree.put array subscripts value at) h = (each_operates subscripts h.1.0, pure_operates value h.2.0)
    piece_operates (tree.fork test left right end) h = (pure_operates test h.0.0, all_operate left h.1, all_operate right h.2)
    piece_operates (tree.repeat_ id post before test body step end) h = (all_operate before h.0, pure_operates test h.1.0, all_operate body h.2, all_operate step h.3)
    piece_operates (tree.pick test labels body end) h = (h.2, pure_operates test h.0.0, all_operate body h.1)
    piece_operates tree.break_ h = tt
    piece_operates tree.next_ h = tt
    piece_operates (tree.leave call) h = tt
    piece_operates (tree.land call end) h = tt
    piece_operates (tree.mark point) h = tt

    all_operate : (pieces : PieceTrees) → PiecesTyped f pieces → PiecesOperate pieces
    all_operate tree.no_pieces h = tt
    all_operate (tree.then_ first rest) h = (piece_operates first h.0, all_operate rest h.1)

pub pieces_operate : TypedPiecesOperate
pieces_operate f pieces h = all_operate f pieces h
