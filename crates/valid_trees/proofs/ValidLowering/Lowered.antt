-- Lowered trees are valid.
use Rattle.std.proofs.Common.{ℕ, ◌+◌, Bool, true, false, List, Option, Some, None, if◌then◌else◌}
use Rattle.hls_base.specs.declared.point.Point.{Point}
use Rattle.pieces.specs.declared.piece.Label.{Label}
use Rattle.pieces.specs.Trees as tree
use Rattle.pieces.specs.Trees.{PureTree, PieceTree, PieceTrees}
use Rattle.pieces.specs.Weight.{weight}
use Rattle.ir_core.specs.Trees.{break_, continue_, leave, BlockTree, BodyTree, SequenceTree, sequence, ShapeTree, more_arms}
use Rattle.passes.specs.Lowering.Shapes.{is_eligible, first_point, or_at, point_of}
use Rattle.passes.specs.Lowering.Blocks.{Scope, begun, is_live, with_exit, set, put, ends_by_test}
use Rattle.passes.specs.Lowering.{Rest, last, followed, parts_of, land_of, side_from, with_copies, own_step, stepped, is_named, lowered, lowered_piece, before_arm, arms}
use Rattle.pass_runs.specs.ConvertRuns.LoweredConversions.Suiting.{PieceSuits, PiecesSuit}
use Rattle.valid_trees.specs.Bodies.{BodyIsValid}
use Rattle.valid_trees.specs.Trees.{SequenceHas, PartsHave, ShapeHas, SideHas, ArmsHave}
use Rattle.valid_trees.specs.ValidLowering.Proper.{PieceIsProper, PiecesAreProper}
use Rattle.valid_trees.specs.ValidLowering.{frame_in, LoweredIsValid}
use Rattle.valid_trees.proofs.ValidLowering.Blocks.{IsValid, begun_valid, exit_valid, set_valid, put_valid, test_valid, fork_valid, cases_valid}
use Rattle.valid_trees.proofs.ValidLowering.Copies.{copies_valid}

module _ (scope : Scope) where
  abbrev B : BlockTree → Type 0
  B = IsValid scope

  abbrev O : BodyTree → Type 0
  O = BodyIsValid (frame_in scope)

  abbrev Has : SequenceTree → Type 0
  Has = SequenceHas B O

  -- what becomes of an open block
  abbrev RestHas : Rest → Type 0
  RestHas rest = (b : BlockTree) → B b → Has (rest b)

  last_has : RestHas last
  last_has b h = (h, tt)

  followed_has : (b : BlockTree) (shape : ShapeTree) (s : SequenceTree) → B b → ShapeHas B O shape → Has s → Has (followed b shape s)
  followed_has b shape (sequence first rest) h g k = (h, (g, k.0, k.1))

  parts_has : (s : SequenceTree) → Has s → PartsHave B O (parts_of s)
  parts_has (sequence first rest) h = h.1

  begun_has : (point : Point) → B (begun point)
  begun_has point = begun_valid (frame_in scope) point

  side_has : (blocks : Rest) (point : Option Point) → RestHas blocks → SideHas B O (side_from blocks point)
  side_has blocks None h = tt
  side_has blocks (Some point) h = h (begun point) (begun_has point)

  stepped_has : (step : Rest) (point : Option Point) → RestHas step → RestHas (stepped step point)
  stepped_has step None h b g = h b g
  stepped_has step (Some point) h b g = last_has b g

  if_has : (c : Bool) (x y : BlockTree) → B x → B y → B (if c then x else y)
  if_has true x y h g = h
  if_has false x y h g = g

  copies_have : (c : Bool) (s : SequenceTree) → Has s → Has (with_copies c scope s)
  copies_have true s h = copies_valid scope s h
  copies_have false s h = h

  -- ---- pieces

  mutual
    pieces_have : (parts : PieceTrees) (rest : Rest) (b : BlockTree) → PiecesSuit scope parts → PiecesAreProper scope.arrays parts → RestHas rest → B b → Has (lowered scope parts rest b)
    pieces_have tree.no_pieces rest b z p r h = r b h
    pieces_have (tree.then_ piece parts) rest b z p r h = piece_has piece (λ b1. lowered scope parts rest b1) b z.0 p.0 (λ b1 h1. pieces_have parts rest b1 z.1 p.1 r h1) h

    piece_has : (piece : PieceTree) (rest : Rest) (b : BlockTree) → PieceSuits scope piece → PieceIsProper scope.arrays piece → RestHas rest → B b → Has (lowered_piece scope piece rest b)
    piece_has (tree.set v x) rest b z p r h = r (if is_live b then set scope v x b else b) (if_has (is_live b) (set scope v x b) b (set_valid scope v x b h z p) h)
    piece_has (tree.put a s x at) rest b z p r h = r (if is_live b then put scope a s x at b else b) (if_has (is_live b) (put scope a s x at b) b (put_valid scope a s x at b h z p) h)
    piece_has (tree.fork test left right end) rest b z p r h =
        followed_has _ _ (rest (begun end)) (fork_valid scope test left right b h z.0 z.1 z.2 p.0 p.1 p.2) (
          side_has (λ b1. lowered scope left last b1) (first_point left) (λ b1 h1. pieces_have left last b1 z.1 p.1 last_has h1),
          side_has (λ b1. lowered scope right last b1) (first_point right) (λ b1 h1. pieces_have right last b1 z.2 p.2 last_has h1),
        )
        (r (begun end) (begun_has end))
    piece_has (tree.repeat_ id post before test body step end) rest b z p r h =
        let own = own_step body (first_point step) in
        let steps : RestHas (λ b1. lowered scope step last b1) = λ b1 h1. pieces_have step last b1 z.3 p.3 last_has h1 in
        let around : Rest = λ b1. stepped (λ b2. lowered scope step last b2) own b1 in
        let eligible = is_eligible post before (weight test) body step in
        let at = or_at end (first_point body) in
        let start = or_at end (first_point before) in
        let blocks = pieces_have body around (begun at) z.2 p.2 (stepped_has (λ b2. lowered scope step last b2) own steps) (begun_has at) in
        followed_has _ _ (rest (begun end)) h (
          pieces_have before (λ b1. last (ends_by_test test b1)) (begun start) z.0 p.0 (λ b1 h1. last_has (ends_by_test test b1) (test_valid scope test b1 h1 z.1 p.1)) (begun_has start),
          copies_have eligible (lowered scope body around (begun at)) blocks,
          side_has (λ b1. lowered scope step last b1) own steps,
        )
        (r (begun end) (begun_has end))
    piece_has (tree.pick test labels body end) rest b z p r h =
        let dead : B (record (begun end) { exit = break_ }) = record { ops = tt; outs = tt; exit = tt } in
        followed_has _ _ (rest (begun end)) (cases_valid scope test labels b h z.0 p.1 p.0)
        (parts_has (before_arm scope labels 0 body (record (begun end) { exit = break_ })) (before_has labels 0 body (record (begun end) { exit = break_ }) z.1 p.2 dead), arms_have labels 0 body end z.1 p.2)
        (r (begun end) (begun_has end))
    piece_has tree.break_ rest b z p r h = r (with_exit break_ b) (exit_valid (frame_in scope) break_ b h tt)
    piece_has tree.next_ rest b z p r h = r (with_exit continue_ b) (exit_valid (frame_in scope) continue_ b h tt)
    piece_has (tree.leave call) rest b z p r h = r (with_exit (leave (land_of call)) b) (exit_valid (frame_in scope) (leave (land_of call)) b h tt)
    piece_has (tree.land call end) rest b z p r h = followed_has _ _ (rest (begun end)) h tt (r (begun end) (begun_has end))
    piece_has (tree.mark point) rest b z p r h = r b h

    before_has : (labels : List Label) (i : ℕ) (parts : PieceTrees) (b : BlockTree) → PiecesSuit scope parts → PiecesAreProper scope.arrays parts → B b → Has (before_arm scope labels i parts b)
    before_has labels i tree.no_pieces b z p h = last_has b h
    before_has labels i (tree.then_ piece parts) b z p h =
        either (is_named labels i) (piece_has piece (λ b1. before_arm scope labels (i + 1) parts b1) b z.0 p.0 (λ b1 h1. before_has labels (i + 1) parts b1 z.1 p.1 h1) h)
      where
        either : (c : Bool) → Has (lowered_piece scope piece (λ b1. before_arm scope labels (i + 1) parts b1) b) → Has (if c then last b else lowered_piece scope piece (λ b1. before_arm scope labels (i + 1) parts b1) b)
        either true g = last_has b h
        either false g = g

    arms_have : (labels : List Label) (i : ℕ) (parts : PieceTrees) (end : Point) → PiecesSuit scope parts → PiecesAreProper scope.arrays parts → ArmsHave B O (arms scope labels i parts end)
    arms_have labels i tree.no_pieces end z p = tt
    arms_have labels i (tree.then_ piece parts) end z p =
        either (is_named labels i)
        (piece_has piece (λ b1. before_arm scope labels (i + 1) parts b1) (begun (or_at end (point_of piece))) z.0 p.0 (λ b1 h1. before_has labels (i + 1) parts b1 z.1 p.1 h1) (begun_has (or_at end (point_of piece))))
        (arms_have labels (i + 1) parts end z.1 p.1)
      where
        first : SequenceTree
        first = lowered_piece scope piece (λ b1. before_arm scope labels (i + 1) parts b1) (begun (or_at end (point_of piece)))

        either : (c : Bool) → Has first → ArmsHave B O (arms scope labels (i + 1) parts end) → ArmsHave B O (if c then more_arms first (arms scope labels (i + 1) parts end) else arms scope labels (i + 1) parts end)
        either true g k = (g, k)
        either false g k = k

pub lowered_valid : LoweredIsValid
lowered_valid scope parts point z p = pieces_have scope parts last (begun point) z p (last_has scope) (begun_has scope point)
