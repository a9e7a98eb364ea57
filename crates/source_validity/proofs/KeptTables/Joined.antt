-- What is known of subscripts, tables and operators makes pieces proper.
use Rattle.std.proofs.Common.{◌≡◌, ◌∙◌, sym, refl, ap, suc, false, List, slice_get, Some, None, is_some}
use Rattle.hls_base.specs.declared.number.ArrayId.{ArrayId}
use Rattle.pieces.specs.Trees as tree
use Rattle.pieces.specs.Trees.{PureTree, PureTrees, PieceTree, PieceTrees}
use Rattle.pieces.specs.Program.{ArrayTree}
use Rattle.valid_trees.specs.ValidLowering.Proper as proper
use Rattle.valid_trees.specs.ValidLowering.Proper.{dimensions, is_table, PureIsProper, EachIsProper, PieceIsProper, PiecesAreProper}
use Rattle.sound_trees.specs.Subscripts.{count, HasDimensions, SubscriptsFit, AllSubscriptsFit, PieceSubscriptsFit, PiecesSubscriptsFit}
use Rattle.compiled_plans.specs.Operations.{PutsNoTable, PutNoTables}
use Rattle.typed_pieces.specs.Operators.{PureOperates, EachOperates, PieceOperates, PiecesOperate}
use Rattle.source_validity.specs.KeptTables.ProperPieces.{JoinedPiecesAreProper}

same_count : (xs : PureTrees) → proper.count xs ≡ count xs
same_count tree.none = refl
same_count (tree.more first rest) = ap suc (same_count rest)

module _ (arrays : List ArrayTree) where
  all_counted : (array : ArrayId) (subscripts : PureTrees) → HasDimensions arrays array (count subscripts) → proper.count subscripts ≡ dimensions (slice_get arrays array.0)
  all_counted array subscripts h = same_count subscripts ∙ h.2 ∙ sym (ap dimensions h.1)

  no_table : (array : ArrayId) (subscripts : PureTrees) → HasDimensions arrays array (count subscripts) → ((a : ArrayTree) → slice_get arrays array.0 ≡ Some a → a.table ≡ None) → is_table (slice_get arrays array.0) ≡ false
  no_table array subscripts h kept = ap is_table h.1 ∙ ap is_some (kept h.0 h.1)

  mutual
    pure_proper : (x : PureTree) → SubscriptsFit arrays x → PureOperates x → PureIsProper arrays x
    pure_proper (tree.number v k) s o = tt
    pure_proper (tree.variable name k) s o = tt
    pure_proper (tree.element array subscripts k at) s o = (all_counted array subscripts s.0, each_proper subscripts s.1 o)
    pure_proper (tree.unary op arg k at) s o = pure_proper arg s o
    pure_proper (tree.binary op left right k at) s o = (o.0, pure_proper left s.0 o.1, pure_proper right s.1 o.2)
    pure_proper (tree.choice test left right k) s o = (pure_proper test s.0 o.0, pure_proper left s.1 o.1, pure_proper right s.2 o.2)
    pure_proper (tree.cast to arg) s o = pure_proper arg s o

    each_proper : (xs : PureTrees) → AllSubscriptsFit arrays xs → EachOperates xs → EachIsProper arrays xs
    each_proper tree.none s o = tt
    each_proper (tree.more first rest) s o = (pure_proper first s.0 o.0, each_proper rest s.1 o.1)

  mutual
    piece_proper : (p : PieceTree) → PieceSubscriptsFit arrays p → PutsNoTable arrays p → PieceOperates p → PieceIsProper arrays p
    piece_proper (tree.set name value) s t o = pure_proper value s o
    piece_proper (tree.put array subscripts value at) s t o = (no_table array subscripts s.0 t, all_counted array subscripts s.0, each_proper subscripts s.1 o.0, pure_proper value s.2 o.1)
    piece_proper (tree.fork test left right end) s t o = (pure_proper test s.0 o.0, pieces_proper left s.1 t.0 o.1, pieces_proper right s.2 t.1 o.2)
    piece_proper (tree.repeat_ id post before test body step end) s t o = (pieces_proper before s.0 t.0 o.0, pure_proper test s.1 o.1, pieces_proper body s.2 t.1 o.2, pieces_proper step s.3 t.2 o.3)
    piece_proper (tree.pick test labels body end) s t o = (o.0, pure_proper test s.0 o.1, pieces_proper body s.1 t o.2)
    piece_proper tree.break_ s t o = tt
    piece_proper tree.next_ s t o = tt
    piece_proper (tree.leave call) s t o = tt
    piece_proper (tree.land call end) s t o = tt
    piece_proper (tree.mark point) s t o = tt

    pieces_proper : (ps : PieceTrees) → PiecesSubscriptsFit arrays ps → PutNoTables arrays ps → PiecesOperate ps → PiecesAreProper arrays ps
    pieces_proper tree.no_pieces s t o = tt
    pieces_proper (tree.then_ piece rest) s t o = (piece_proper piece s.0 t.0 o.0, pieces_proper rest s.1 t.1 o.1)

pub joined_proper : JoinedPiecesAreProper
joined_proper arrays pieces s t o = pieces_proper arrays pieces s t o
