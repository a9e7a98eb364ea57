-- Lowered trees are ready.
use Rattle.std.proofs.Common.{◌≡◌, ℕ, ◌+◌, Bool, true, false, not, ◌&&◌, refl, sym, subst, List, Option, Some, None, if◌then◌else◌}
use Rattle.std.specs.Prelude.{nat_le}
use Rattle.hls_base.specs.declared.point.Point.{Point}
use Rattle.pieces.specs.declared.piece.Label.{Label}
use Rattle.pieces.specs.Trees as tree
use Rattle.pieces.specs.Trees.{PureTree, PieceTree, PieceTrees}
use Rattle.pieces.specs.Weight.{weight, piece_weights}
use Rattle.pieces.specs.Shape.{are_marks}
use Rattle.ir_core.specs.Trees.{break_, continue_, leave, BlockTree, BodyTree, SequenceTree, sequence, ShapeTree, land, more_arms}
use Rattle.passes.specs.Lowering.Shapes.{is_eligible, are_straight, first_point, or_at, point_of}
use Rattle.passes.specs.Lowering.Blocks.{Scope, begun, is_live, with_exit, set, put, ends_by_test}
use Rattle.passes.specs.Lowering.{Rest, last, followed, parts_of, land_of, side_from, with_copies, own_step, stepped, is_named, lowered, lowered_piece, before_arm, arms}
use Rattle.pass_runs.specs.ConvertRuns.LoweredConversions.Suiting.{words_of, PureSuits, PieceSuits, PiecesSuit}
use Rattle.pass_runs.proofs.ConvertRuns.LoweredConversions.Blocks.{exit_typed}
use Rattle.pass_runs.specs.ConvertRuns.LoweredConversions.Suiting as typing
use Rattle.sound_trees.specs.Trees.{SequenceHas, PartsHave, ShapeHas, SideHas, ArmsHave}
use Rattle.sound_trees.specs.Loops.{LoopIsReady, TestsAlone}
use Rattle.sound_trees.specs.Subscripts.{SubscriptsFit, PieceSubscriptsFit, PiecesSubscriptsFit}
use Rattle.sound_trees.specs.Laws.{shapes_in}
use Rattle.sound_trees.proofs.Blocks.{IsReady, begun_ready, exit_ready, set_ready, put_ready, test_ready, fork_ready, ends_ready}
use Rattle.sound_trees.proofs.Copies.{copies_ready}
use Rattle.sound_trees.proofs.Own.{body_owns}
use Rattle.sound_trees.proofs.Fixed.{both_true}

-- ---- the test of a loop that may be overlapped

false_true : {A : Type 0} → false ≡ true → A
false_true e = cc

-- marks make nothing, and where a call ends the test has more blocks
land_alone : (scope : Scope) (b : BlockTree) (number : _) (s : SequenceTree) → TestsAlone (shapes_in scope) (words_of scope) (followed b (land number) s)
land_alone scope b number (sequence first rest) = tt

test_alone : (scope : Scope) (test : PureTree) (parts : PieceTrees) (b : BlockTree) → are_marks parts ≡ true → IsReady scope false b → PureSuits scope test → SubscriptsFit scope.arrays test
    → TestsAlone (shapes_in scope) (words_of scope) (lowered scope parts (λ b1. last (ends_by_test test b1)) b)
test_alone scope test tree.no_pieces b e h z w = test_ready scope false test b h z w
test_alone scope test (tree.then_ (tree.mark p) parts) b e h z w = test_alone scope test parts b e h z w
test_alone scope test (tree.then_ (tree.land c n) parts) b e h z w = land_alone scope b (land_of c) (lowered scope parts (λ b1. last (ends_by_test test b1)) (begun n))
test_alone scope test (tree.then_ (tree.set v x) parts) b e h z w = absurd (false_true e)
test_alone scope test (tree.then_ (tree.put a s x at) parts) b e h z w = absurd (false_true e)
test_alone scope test (tree.then_ (tree.fork t l r n) parts) b e h z w = absurd (false_true e)
test_alone scope test (tree.then_ (tree.repeat_ i p f t y u n) parts) b e h z w = absurd (false_true e)
test_alone scope test (tree.then_ (tree.pick t l y n) parts) b e h z w = absurd (false_true e)
test_alone scope test (tree.then_ tree.break_ parts) b e h z w = absurd (false_true e)
test_alone scope test (tree.then_ tree.next_ parts) b e h z w = absurd (false_true e)
test_alone scope test (tree.then_ (tree.leave c) parts) b e h z w = absurd (false_true e)

module _ (scope : Scope) (O : BodyTree → Type 0) where
  abbrev L : SequenceTree → SequenceTree → Type 0
  L = LoopIsReady (shapes_in scope) (words_of scope)

  abbrev B : BlockTree → Type 0
  B = IsReady scope true

  abbrev Has : SequenceTree → Type 0
  Has = SequenceHas B L O

  abbrev RestHas : Rest → Type 0
  RestHas rest = (b : BlockTree) → B b → Has (rest b)

  last_has : RestHas last
  last_has b h = (h, tt)

  followed_has : (b : BlockTree) (shape : ShapeTree) (s : SequenceTree) → B b → ShapeHas B L O shape → Has s → Has (followed b shape s)
  followed_has b shape (sequence first rest) h g k = (h, (g, k.0, k.1))

  parts_has : (s : SequenceTree) → Has s → PartsHave B L O (parts_of s)
  parts_has (sequence first rest) h = h.1

  side_has : (blocks : Rest) (point : Option Point) → RestHas blocks → SideHas B L O (side_from blocks point)
  side_has blocks None h = tt
  side_has blocks (Some point) h = h (begun point) (begun_ready scope true point)

  stepped_has : (step : Rest) (point : Option Point) → RestHas step → RestHas (stepped step point)
  stepped_has step None h b g = h b g
  stepped_has step (Some point) h b g = last_has b g

  if_has : (c : Bool) (x y : BlockTree) → B x → B y → B (if c then x else y)
  if_has true x y h g = h
  if_has false x y h g = g

  copies_have : (c : Bool) (s : SequenceTree) → Has s → Has (with_copies c scope s)
  copies_have true s h = copies_ready scope true L O s h
  copies_have false s h = h

  loop_ready : (post : Bool) (before : PieceTrees) (test : PureTree) (body step : PieceTrees) (at : Point) (s : SequenceTree) → PureSuits scope test → SubscriptsFit scope.arrays test → Has s → is_eligible post before (weight test) body step ≡ true
      → L (lowered scope before (λ b1. last (ends_by_test test b1)) (begun at)) (with_copies (is_eligible post before (weight test) body step) scope s)
  loop_ready post before test body step at s z w h e =
      let heavy = nat_le (weight test + piece_weights body + piece_weights step) 256 && (are_straight body && are_straight step) in
      let marks = (both_true (are_marks before) heavy (both_true (not post) (are_marks before && heavy) e).1).0 in
      subst (λ c. L (lowered scope before (λ b1. last (ends_by_test test b1)) (begun at)) (with_copies c scope s)) (sym e) (record {
        tests = test_alone scope test before (begun at) marks (begun_ready scope false at) z w;
        owns = body_owns scope L O s h;
      })

  mutual
    pieces_have : (parts : PieceTrees) (rest : Rest) (b : BlockTree) → PiecesSuit scope parts → PiecesSubscriptsFit scope.arrays parts → RestHas rest → B b → Has (lowered scope parts rest b)
    pieces_have tree.no_pieces rest b z w r h = r b h
    pieces_have (tree.then_ piece parts) rest b z w r h = piece_has piece (λ b1. lowered scope parts rest b1) b z.0 w.0 (λ b1 h1. pieces_have parts rest b1 z.1 w.1 r h1) h

    piece_has : (piece : PieceTree) (rest : Rest) (b : BlockTree) → PieceSuits scope piece → PieceSubscriptsFit scope.arrays piece → RestHas rest → B b → Has (lowered_piece scope piece rest b)
    piece_has (tree.set v x) rest b z w r h = r (if is_live b then set scope v x b else b) (if_has (is_live b) (set scope v x b) b (set_ready scope true v x b h z w) h)
    piece_has (tree.put a s x at) rest b z w r h = r (if is_live b then put scope a s x at b else b) (if_has (is_live b) (put scope a s x at b) b (put_ready scope true refl a s x at b h z w) h)
    piece_has (tree.fork test left right end) rest b z w r h =
        followed_has _ _ (rest (begun end)) (fork_ready scope true test left right b h z.0 z.1 z.2 w.0 w.1 w.2) (
          side_has (λ b1. lowered scope left last b1) (first_point left) (λ b1 h1. pieces_have left last b1 z.1 w.1 last_has h1),
          side_has (λ b1. lowered scope right last b1) (first_point right) (λ b1 h1. pieces_have right last b1 z.2 w.2 last_has h1),
        )
        (r (begun end) (begun_ready scope true end))
    piece_has (tree.repeat_ id post before test body step end) rest b z w r h =
        let own = own_step body (first_point step) in
        let steps : RestHas (λ b1. lowered scope step last b1) = λ b1 h1. pieces_have step last b1 z.3 w.3 last_has h1 in
        let around : Rest = λ b1. stepped (λ b2. lowered scope step last b2) own b1 in
        let eligible = is_eligible post before (weight test) body step in
        let at = or_at end (first_point body) in
        let start = or_at end (first_point before) in
        let blocks = pieces_have body around (begun at) z.2 w.2 (stepped_has (λ b2. lowered scope step last b2) own steps) (begun_ready scope true at) in
        followed_has _ _ (rest (begun end)) h (
          pieces_have before (λ b1. last (ends_by_test test b1)) (begun start) z.0 w.0 (λ b1 h1. last_has (ends_by_test test b1) (test_ready scope true test b1 h1 z.1 w.1)) (begun_ready scope true start),
          copies_have eligible (lowered scope body around (begun at)) blocks,
          side_has (λ b1. lowered scope step last b1) own steps,
          loop_ready post before test body step start (lowered scope body around (begun at)) z.1 w.1 blocks,
        )
        (r (begun end) (begun_ready scope true end))
    piece_has (tree.pick test labels body end) rest b z w r h =
        let dead : B (record (begun end) { exit = break_ }) = let g = begun_ready scope true end in record { typed = record { ops = tt; outs = tt; exit = tt }; once = g.once; ops = g.ops; outs = g.outs; exit = tt } in
        followed_has _ _ (rest (begun end)) (ends_ready scope true test labels b h z.0 w.0)
        (parts_has (before_arm scope labels 0 body (record (begun end) { exit = break_ })) (before_has labels 0 body (record (begun end) { exit = break_ }) z.1 w.1 dead), arms_have labels 0 body end z.1 w.1)
        (r (begun end) (begun_ready scope true end))
    piece_has tree.break_ rest b z w r h = r (with_exit break_ b) (exit_ready scope true break_ b h (exit_typed (typing.widths_of scope) (words_of scope) break_ b h.typed tt) tt)
    piece_has tree.next_ rest b z w r h = r (with_exit continue_ b) (exit_ready scope true continue_ b h (exit_typed (typing.widths_of scope) (words_of scope) continue_ b h.typed tt) tt)
    piece_has (tree.leave call) rest b z w r h =
        r (with_exit (leave (land_of call)) b) (exit_ready scope true (leave (land_of call)) b h (exit_typed (typing.widths_of scope) (words_of scope) (leave (land_of call)) b h.typed tt) tt)
    piece_has (tree.land call end) rest b z w r h = followed_has _ _ (rest (begun end)) h tt (r (begun end) (begun_ready scope true end))
    piece_has (tree.mark point) rest b z w r h = r b h

    before_has : (labels : List Label) (i : ℕ) (parts : PieceTrees) (b : BlockTree) → PiecesSuit scope parts → PiecesSubscriptsFit scope.arrays parts → B b → Has (before_arm scope labels i parts b)
    before_has labels i tree.no_pieces b z w h = last_has b h
    before_has labels i (tree.then_ piece parts) b z w h =
        either (is_named labels i) (piece_has piece (λ b1. before_arm scope labels (i + 1) parts b1) b z.0 w.0 (λ b1 h1. before_has labels (i + 1) parts b1 z.1 w.1 h1) h)
      where
        either : (c : Bool) → Has (lowered_piece scope piece (λ b1. before_arm scope labels (i + 1) parts b1) b) → Has (if c then last b else lowered_piece scope piece (λ b1. before_arm scope labels (i + 1) parts b1) b)
        either true g = last_has b h
        either false g = g

    arms_have : (labels : List Label) (i : ℕ) (parts : PieceTrees) (end : Point) → PiecesSuit scope parts → PiecesSubscriptsFit scope.arrays parts → ArmsHave B L O (arms scope labels i parts end)
    arms_have labels i tree.no_pieces end z w = tt
    arms_have labels i (tree.then_ piece parts) end z w =
        either (is_named labels i)
        (piece_has piece (λ b1. before_arm scope labels (i + 1) parts b1) (begun (or_at end (point_of piece))) z.0 w.0 (λ b1 h1. before_has labels (i + 1) parts b1 z.1 w.1 h1) (begun_ready scope true (or_at end (point_of piece))))
        (arms_have labels (i + 1) parts end z.1 w.1)
      where
        first : SequenceTree
        first = lowered_piece scope piece (λ b1. before_arm scope labels (i + 1) parts b1) (begun (or_at end (point_of piece)))

        either : (c : Bool) → Has first → ArmsHave B L O (arms scope labels (i + 1) parts end) → ArmsHave B L O (if c then more_arms first (arms scope labels (i + 1) parts end) else arms scope labels (i + 1) parts end)
        either true g k = (g, k)
        either false g k = k

pub lowered_ready : (O : BodyTree → Type 0) (scope : Scope) (parts : PieceTrees) (point : Point) → PiecesSuit scope parts → PiecesSubscriptsFit scope.arrays parts
    → SequenceHas (IsReady scope true) (LoopIsReady (shapes_in scope) (words_of scope)) O (lowered scope parts last (begun point))
lowered_ready O scope parts point z w = pieces_have scope O parts last (begun point) z w (last_has scope O) (begun_ready scope true point)
