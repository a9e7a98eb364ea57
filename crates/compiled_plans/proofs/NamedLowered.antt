-- Lowered trees name what is there.
use Rattle.std.proofs.Common.{ℕ, ◌+◌, Bool, true, false, List, Option, Some, None, if◌then◌else◌}
use Rattle.hls_base.specs.declared.point.Point.{Point}
use Rattle.pieces.specs.declared.piece.Label.{Label}
use Rattle.pieces.specs.Trees as tree
use Rattle.pieces.specs.Trees.{PieceTree, PieceTrees}
use Rattle.pieces.specs.Weight.{weight}
use Rattle.ir_core.specs.Trees.{break_, continue_, leave, BlockTree, BodyTree, SequenceTree, sequence, ShapeTree, more_arms}
use Rattle.passes.specs.Lowering.Shapes.{is_eligible, first_point, or_at, point_of}
use Rattle.passes.specs.Lowering.Blocks.{Scope, begun, is_live, with_exit, set, put, ends_by_test}
use Rattle.passes.specs.Lowering.{Rest, last, followed, parts_of, land_of, side_from, with_copies, own_step, stepped, is_named, lowered, lowered_piece, before_arm, arms}
use Rattle.pass_runs.specs.ConvertRuns.LoweredConversions.Suiting.{PieceSuits, PiecesSuit}
use Rattle.sound_trees.specs.Trees.{SequenceHas, PartsHave, ShapeHas, SideHas, ArmsHave}
use Rattle.compiled_plans.specs.Operations.{PutsNoTable, PutNoTables}
use Rattle.compiled_plans.proofs.NamedBlocks.{B, begun_named, exit_named, set_named, put_named, test_named, fork_named, ends_named, copies_named}

module _ (scope : Scope) (O : BodyTree → Type 0) where
  -- nothing more is asked of loops
  abbrev L : SequenceTree → SequenceTree → Type 0
  L t b = Unit {0}

  abbrev Has : SequenceTree → Type 0
  Has = SequenceHas (B scope) L O

  abbrev RestHas : Rest → Type 0
  RestHas rest = (b : BlockTree) → B scope b → Has (rest b)

  last_has : RestHas last
  last_has b h = (h, tt)

  followed_has : (b : BlockTree) (shape : ShapeTree) (s : SequenceTree) → B scope b → ShapeHas (B scope) L O shape → Has s → Has (followed b shape s)
  followed_has b shape (sequence first rest) h g k = (h, (g, k.0, k.1))

  parts_has : (s : SequenceTree) → Has s → PartsHave (B scope) L O (parts_of s)
  parts_has (sequence first rest) h = h.1

  side_has : (blocks : Rest) (point : Option Point) → RestHas blocks → SideHas (B scope) L O (side_from blocks point)
  side_has blocks None h = tt
  side_has blocks (Some point) h = h (begun point) (begun_named scope point)

  stepped_has : (step : Rest) (point : Option Point) → RestHas step → RestHas (stepped step point)
  stepped_has step None h b g = h b g
  stepped_has step (Some point) h b g = last_has b g

  if_has : (c : Bool) (x y : BlockTree) → B scope x → B scope y → B scope (if c then x else y)
  if_has true x y h g = h
  if_has false x y h g = g

  copies_have : (c : Bool) (s : SequenceTree) → Has s → Has (with_copies c scope s)
  copies_have true s h = copies_named scope L O s h
  copies_have false s h = h

  mutual
    pieces_have : (parts : PieceTrees) (rest : Rest) (b : BlockTree) → PiecesSuit scope parts → PutNoTables scope.arrays parts → RestHas rest → B scope b → Has (lowered scope parts rest b)
    pieces_have tree.no_pieces rest b z w r h = r b h
    pieces_have (tree.then_ piece parts) rest b z w r h = piece_has piece (λ b1. lowered scope parts rest b1) b z.0 w.0 (λ b1 h1. pieces_have parts rest b1 z.1 w.1 r h1) h

    piece_has : (piece : PieceTree) (rest : Rest) (b : BlockTree) → PieceSuits scope piece → PutsNoTable scope.arrays piece → RestHas rest → B scope b → Has (lowered_piece scope piece rest b)
    piece_has (tree.set v x) rest b z w r h = r (if is_live b then set scope v x b else b) (if_has (is_live b) (set scope v x b) b (set_named scope v x b h z) h)
    piece_has (tree.put a s x at) rest b z w r h = r (if is_live b then put scope a s x at b else b) (if_has (is_live b) (put scope a s x at b) b (put_named scope a s x at b h z w) h)
    piece_has (tree.fork test left right end) rest b z w r h =
        followed_has _ _ (rest (begun end)) (fork_named scope test left right b h z.0 z.1 z.2) (
          side_has (λ b1. lowered scope left last b1) (first_point left) (λ b1 h1. pieces_have left last b1 z.1 w.0 last_has h1),
          side_has (λ b1. lowered scope right last b1) (first_point right) (λ b1 h1. pieces_have right last b1 z.2 w.1 last_has h1),
        )
        (r (begun end) (begun_named scope end))
    piece_has (tree.repeat_ id post before test body step end) rest b z w r h =
        let own = own_step body (first_point step) in
        let steps : RestHas (λ b1. lowered scope step last b1) = λ b1 h1. pieces_have step last b1 z.3 w.2 last_has h1 in
        let around : Rest = λ b1. stepped (λ b2. lowered scope step last b2) own b1 in
        let eligible = is_eligible post before (weight test) body step in
        let at = or_at end (first_point body) in
        let start = or_at end (first_point before) in
        let blocks = pieces_have body around (begun at) z.2 w.1 (stepped_has (λ b2. lowered scope step last b2) own steps) (begun_named scope at) in
        followed_has _ _ (rest (begun end)) h (
          pieces_have before (λ b1. last (ends_by_test test b1)) (begun start) z.0 w.0 (λ b1 h1. last_has (ends_by_test test b1) (test_named scope test b1 h1 z.1)) (begun_named scope start),
          copies_have eligible (lowered scope body around (begun at)) blocks,
          side_has (λ b1. lowered scope step last b1) own steps,
          λ e. tt,
        )
        (r (begun end) (begun_named scope end))
    piece_has (tree.pick test labels body end) rest b z w r h =
        let dead : B scope (record (begun end) { exit = break_ }) = record { ops = tt; outs = tt; exit = tt } in
        followed_has _ _ (rest (begun end)) (ends_named scope test labels b h z.0)
        (parts_has (before_arm scope labels 0 body (record (begun end) { exit = break_ })) (before_has labels 0 body (record (begun end) { exit = break_ }) z.1 w dead), arms_have labels 0 body end z.1 w)
        (r (begun end) (begun_named scope end))
    piece_has tree.break_ rest b z w r h = r (with_exit break_ b) (exit_named scope break_ b h tt)
    piece_has tree.next_ rest b z w r h = r (with_exit continue_ b) (exit_named scope continue_ b h tt)
    piece_has (tree.leave call) rest b z w r h = r (with_exit (leave (land_of call)) b) (exit_named scope (leave (land_of call)) b h tt)
    piece_has (tree.land call end) rest b z w r h = followed_has _ _ (rest (begun end)) h tt (r (begun end) (begun_named scope end))
    piece_has (tree.mark point) rest b z w r h = r b h

    before_has : (labels : List Label) (i : ℕ) (parts : PieceTrees) (b : BlockTree) → PiecesSuit scope parts → PutNoTables scope.arrays parts → B scope b → Has (before_arm scope labels i parts b)
    before_has labels i tree.no_pieces b z w h = last_has b h
    before_has labels i (tree.then_ piece parts) b z w h =
        either (is_named labels i) (piece_has piece (λ b1. before_arm scope labels (i + 1) parts b1) b z.0 w.0 (λ b1 h1. before_has labels (i + 1) parts b1 z.1 w.1 h1) h)
      where
        either : (c : Bool) → Has (lowered_piece scope piece (λ b1. before_arm scope labels (i + 1) parts b1) b) → Has (if c then last b else lowered_piece scope piece (λ b1. before_arm scope labels (i + 1) parts b1) b)
        either true g = last_has b h
        either false g = g

    arms_have : (labels : List Label) (i : ℕ) (parts : PieceTrees) (end : Point) → PiecesSuit scope parts → PutNoTables scope.arrays parts → ArmsHave (B scope) L O (arms scope labels i parts end)
    arms_have labels i tree.no_pieces end z w = tt
    arms_have labels i (tree.then_ piece parts) end z w =
        either (is_named labels i)
        (piece_has piece (λ b1. before_arm scope labels (i + 1) parts b1) (begun (or_at end (point_of piece))) z.0 w.0 (λ b1 h1. before_has labels (i + 1) parts b1 z.1 w.1 h1) (begun_named scope (or_at end (point_of piece))))
        (arms_have labels (i + 1) parts end z.1 w.1)
      where
        first : SequenceTree
        first = lowered_piece scope piece (λ b1. before_arm scope labels (i + 1) parts b1) (begun (or_at end (point_of piece)))

        either : (c : Bool) → Has first → ArmsHave (B scope) L O (arms scope labels (i + 1) parts end) → ArmsHave (B scope) L O (if c then more_arms first (arms scope labels (i + 1) parts end) else arms scope labels (i + 1) parts end)
        either true g k = (g, k)
        either false g k = k

pub lowered_named : (O : BodyTree → Type 0) (scope : Scope) (parts : PieceTrees) (point : Point) → PiecesSuit scope parts → PutNoTables scope.arrays parts → SequenceHas (B scope) (λ t b. Unit {0}) O (lowered scope parts last (begun point))
lowered_named O scope parts point z w = pieces_have scope O parts last (begun point) z w (last_has scope O) (begun_named scope point)
