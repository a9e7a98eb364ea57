-- The forks and loops of lowered trees are converted.
use Rattle.std.proofs.Common.{◌≡◌, ◌∙◌, ◌+◌, Bool, true, false, ◌&&◌, ◌||◌, not, refl, ap, sym, subst, List, Option, Some, None}
use Rattle.std.specs.Prelude.{nat_le, is_some, if◌then◌else◌}
use Rattle.hls_base.specs.declared.point.Point.{Point}
use Rattle.hls_base.specs.declared.number.VarId.{VarId}
use Rattle.pieces.specs.declared.piece.Label.{Label}
use Rattle.pieces.specs.Trees as tree
use Rattle.pieces.specs.Trees.{PureTree, PieceTree, PieceTrees}
use Rattle.pieces.specs.Weight.{weight, piece_weights}
use Rattle.pieces.specs.Shape.{are_marks}
use Rattle.ir_core.specs.declared.body.Operand.{Operand}
use Rattle.ir_core.specs.Trees.{ExitTree, next, branch, choose, break_, continue_, leave, BlockTree, SequenceTree, sequence, PartTrees, no_part, more_parts, ShapeTree, fork, loop, switch, land, overlapped, SideTree, no_side, more_arms}
use Rattle.passes.specs.Lowering.Shapes.{is_straight, are_straight, is_eligible, continues, any_continues, first_point, point_of, or_at}
use Rattle.passes.specs.Lowering.Blocks.{Scope, begun, goes_on, is_live, set, put, condition, forking, ends_by_test, ends_by_fork, ends_by_cases, with_exit}
use Rattle.passes.specs.Lowering.Copies.{copied_block, copied_parts, fixed_behind, fixed_behind_shape}
use Rattle.passes.specs.Lowering.{Rest, last, followed, parts_of, land_of, side_from, with_copies, own_step, stepped, is_named, lowered, lowered_piece, before_arm, arms}
use Rattle.passes.specs.Numbering as n
use Rattle.passes.specs.Numbering.{Value, nothing, numbered_ops, in_loop, renamed_exit, numbered_block, numbered_sequence, numbered_parts, numbered_shape, numbered_side, numbered_arms}
use Rattle.passes.proofs.Equalities.{first as left_true, second as right_true}
use Rattle.passes.specs.Conversion.Merging.{test_of, is_only, is_only_side, first_of, first_block, branches_by, forked, Branches}
use Rattle.passes.specs.Conversion.Overlapping.{test_if, test_alone, is_there, converted_loop, loop_by}
use Rattle.passes.specs.Conversion as c
use Rattle.passes.specs.Conversion.{converted_sequence, converted_side}
use Rattle.pass_runs.proofs.ConvertRuns.Forks.{forks as merged_forks}
use Rattle.pass_runs.specs.ConvertRuns.LoweredConversions.Suiting.{NoCallEnds}
use Rattle.pass_runs.specs.ConvertRuns.LoweredConversions.{body_blocks}
use Rattle.pass_runs.proofs.ConvertRuns.LoweredConversions.Forks.{numbered_forks}
use Rattle.lowered_shapes.proofs.LoopTests.Tests.{tests_stand}
use Rattle.lowered_shapes.specs.ConvertedShapes.Converting.{is_loop_node, AllConvert, PartsConvert, ShapeConverts, SideConverts, ArmsConvert}
use Rattle.lowered_shapes.specs.ConvertedShapes.Straight.{EndsNoStraightCall, NoStraightCallEnds}
use Rattle.lowered_shapes.specs.ConvertedShapes.{LoweredShapesConvert}

not_true : (x : Bool) → not x ≡ true → x ≡ false
not_true true e = absurd cc
not_true false e = refl

-- ---- exits

-- An exit stays a test, or stays none.
test_stays : (values : List Value) (exit : ExitTree) → is_some (test_of (renamed_exit values exit)) ≡ is_some (test_of exit)
test_stays values next = refl
test_stays values (branch test) = refl
test_stays values (choose cases) = refl
test_stays values break_ = refl
test_stays values continue_ = refl
test_stays values (leave number) = refl

-- Whether a fork is merged is told by there being a test.
same_forked : (x y : Operand) (yes_ no_ : SideTree) (convertible : Bool) → is_some (forked x yes_ no_ convertible) ≡ is_some (forked y yes_ no_ convertible)
same_forked x y yes_ no_ convertible = by (convertible && (is_only_side yes_ && is_only_side no_)) where
  branches : Operand → Branches
  branches z = record { test = z; yes_ = first_block yes_; no_ = first_block no_ }

  by : (b : Bool) → is_some (if b then Some (branches x) else None) ≡ is_some (if b then Some (branches y) else None)
  by true = refl
  by false = refl

same_merged : (t u : Option Operand) (yes_ no_ : SideTree) (convertible : Bool) → is_some t ≡ is_some u → is_some (branches_by t (fork yes_ no_ convertible)) ≡ is_some (branches_by u (fork yes_ no_ convertible))
same_merged None None yes_ no_ convertible e = refl
same_merged (Some x) (Some y) yes_ no_ convertible e = same_forked x y yes_ no_ convertible
same_merged None (Some y) yes_ no_ convertible e = absurd cc
same_merged (Some x) None yes_ no_ convertible e = absurd cc

merges : (t : Option Operand) (yes_ no_ : SideTree) (convertible : Bool) → is_some t ≡ true → convertible ≡ true → is_only_side yes_ ≡ true → is_only_side no_ ≡ true → is_some (branches_by t (fork yes_ no_ convertible)) ≡ true
merges None yes_ no_ convertible e k y n = absurd cc
merges (Some x) yes_ no_ convertible e k y n = λ i. is_some (if k i && (y i && n i) then Some (branches x) else None) where
  branches : Operand → Branches
  branches z = record { test = z; yes_ = first_block yes_; no_ = first_block no_ }

pub converts_alike : (scope : c.Scope) (t u : Option Operand) → is_some t ≡ is_some u → (shape : ShapeTree) → ShapeConverts scope t shape → ShapeConverts scope u shape
converts_alike scope t u e (fork yes_ no_ convertible) h = (λ k. sym (same_merged t u (converted_side scope yes_) (converted_side scope no_) convertible e) ∙ h.0 k, h.1, h.2)
converts_alike scope t u e (loop post test body step eligible) h = h
converts_alike scope t u e (switch dead targets other arms) h = h
converts_alike scope t u e (land number) h = h
converts_alike scope t u e (overlapped point body) h = h

-- ---- loops

node_by : (widths : List _) (eligible post : Bool) (test body : SequenceTree) (step : SideTree) (x : Operand) → eligible ≡ true → post ≡ false → is_there step ≡ false → is_only body ≡ true → test_alone test ≡ Some x
    → is_loop_node (converted_loop widths eligible post test body step) ≡ true
node_by widths eligible post test body step x e p s o t =
    ap (λ known. is_loop_node (loop_by widths known post test body step)) ((λ i. if e i then (if not (p i) && (not (s i) && o i) then test_alone test else None) else None) ∙ t)

-- a piece that is straight is no `continue` and holds none
mutual
  straight_goes_on : (piece : PieceTree) → is_straight piece ≡ true → continues piece ≡ false
  straight_goes_on (tree.set name value) e = refl
  straight_goes_on (tree.put array subscripts value at) e = refl
  straight_goes_on (tree.fork test left right end) e =
      let both = right_true (nat_le (1 + weight test + piece_weights left + piece_weights right) 64) (are_straight left && are_straight right) e in
      λ i. all_straight_go_on left (left_true (are_straight left) (are_straight right) both) i || all_straight_go_on right (right_true (are_straight left) (are_straight right) both) i
  straight_goes_on (tree.repeat_ id post before test body step end) e = absurd cc
  straight_goes_on (tree.pick test labels body end) e = absurd cc
  straight_goes_on tree.break_ e = refl
  straight_goes_on tree.next_ e = absurd cc
  straight_goes_on (tree.leave call) e = refl
  straight_goes_on (tree.land call end) e = refl
  straight_goes_on (tree.mark point) e = refl

  all_straight_go_on : (pieces : PieceTrees) → are_straight pieces ≡ true → any_continues pieces ≡ false
  all_straight_go_on tree.no_pieces e = refl
  all_straight_go_on (tree.then_ first rest) e = λ i. straight_goes_on first (left_true (is_straight first) (are_straight rest) e) i || all_straight_go_on rest (right_true (is_straight first) (are_straight rest) e) i

-- Marks add nothing.
marks_pass : (scope : Scope) (more : PieceTrees) (rest : Rest) (b : BlockTree) → are_marks more ≡ true → NoCallEnds more → lowered scope more rest b ≡ rest b
marks_pass scope tree.no_pieces rest b e h = refl
marks_pass scope (tree.then_ (tree.mark point) more) rest b e h = marks_pass scope more rest b e h.1
marks_pass scope (tree.then_ (tree.land call end) more) rest b e h = absurd h.0
marks_pass scope (tree.then_ (tree.set name value) more) rest b e h = absurd cc
marks_pass scope (tree.then_ (tree.put array subscripts value at) more) rest b e h = absurd cc
marks_pass scope (tree.then_ (tree.fork test left right end) more) rest b e h = absurd cc
marks_pass scope (tree.then_ (tree.repeat_ id post before test body step end) more) rest b e h = absurd cc
marks_pass scope (tree.then_ (tree.pick test labels body end) more) rest b e h = absurd cc
marks_pass scope (tree.then_ tree.break_ more) rest b e h = absurd cc
marks_pass scope (tree.then_ tree.next_ more) rest b e h = absurd cc
marks_pass scope (tree.then_ (tree.leave call) more) rest b e h = absurd cc

-- the parts of eligibility
pub record IsEligible (post : Bool) (before body step : PieceTrees) : Type 0 where
  pub first : post ≡ false
  pub marks : are_marks before ≡ true
  pub body_straight : are_straight body ≡ true
  pub step_straight : are_straight step ≡ true

pub eligible_parts : (post : Bool) (before : PieceTrees) (test : _) (body step : PieceTrees) → is_eligible post before test body step ≡ true → IsEligible post before body step
eligible_parts post before test body step e =
    let light = nat_le (test + piece_weights body + piece_weights step) 256 in
    let behind = right_true (not post) (are_marks before && (light && (are_straight body && are_straight step))) e in
    let straight = right_true light (are_straight body && are_straight step) (right_true (are_marks before) (light && (are_straight body && are_straight step)) behind) in record {
      first = not_true post (left_true (not post) (are_marks before && (light && (are_straight body && are_straight step))) e);
      marks = left_true (are_marks before) (light && (are_straight body && are_straight step)) behind;
      body_straight = left_true (are_straight body) (are_straight step) straight;
      step_straight = right_true (are_straight body) (are_straight step) straight;
    }

module _ (lower : Scope) (scope : c.Scope) where
  abbrev Convert : n.Scope → SequenceTree → Type 0
  Convert numbering s = AllConvert scope (numbered_sequence numbering s)

  -- ---- copies

  copied_convert : (numbering : n.Scope) (variables : VarId → Bool) (t u : Option Operand) (parts : PartTrees) → is_some t ≡ is_some u → PartsConvert scope t (numbered_parts numbering parts) → PartsConvert scope u (numbered_parts numbering (copied_parts lower variables parts))
  copied_convert numbering variables t u no_part e h = tt
  copied_convert numbering variables t u (more_parts shape after rest) e h = (
    converts_alike scope t u e (numbered_shape numbering shape) h.0,
    copied_convert numbering (fixed_behind rest (fixed_behind_shape shape variables) after) (test_of (numbered_block numbering after).exit) (test_of (numbered_block numbering (copied_block lower rest (fixed_behind_shape shape variables) after)).exit) rest
        (test_stays _ after.exit ∙ sym (test_stays _ after.exit)) h.1,
  )

  copies_convert : (copies : Bool) (numbering : n.Scope) (s : SequenceTree) → Convert numbering s → Convert numbering (with_copies copies lower s)
  copies_convert false numbering s h = h
  copies_convert true numbering (sequence first rest) h =
      copied_convert numbering (fixed_behind rest (λ v. false) first) (test_of (numbered_block numbering first).exit) (test_of (numbered_block numbering (copied_block lower rest (λ v. false) first)).exit) rest
      (test_stays _ first.exit ∙ sym (test_stays _ first.exit)) h

  -- ---- what follows an open block

  abbrev Goes : n.Scope → Rest → Type 0
  Goes numbering rest = (b : BlockTree) → Convert numbering (rest b)

  last_goes : (numbering : n.Scope) → Goes numbering last
  last_goes numbering b = tt

  followed_goes : (numbering : n.Scope) (b : BlockTree) (shape : ShapeTree) (s : SequenceTree) → ShapeConverts scope (test_of (numbered_block numbering b).exit) (numbered_shape numbering shape) → Convert numbering s → Convert numbering (followed b shape s)
  followed_goes numbering b shape (sequence first rest) h k = (h, k)

  side_goes : (numbering : n.Scope) (blocks : Rest) (point : Option Point) → Goes numbering blocks → SideConverts scope (numbered_side numbering (side_from blocks point))
  side_goes numbering blocks None h = tt
  side_goes numbering blocks (Some point) h = h (begun point)

  stepped_goes : (numbering : n.Scope) (step : Rest) (own : Option Point) → Goes numbering step → Goes numbering (λ b. stepped step own b)
  stepped_goes numbering step None h b = h b
  stepped_goes numbering step (Some point) h b = tt

  -- ---- forks

  -- Straight pieces without ends of calls become one block.
  side_only : (numbering : n.Scope) (inner : PieceTrees) (point : Option Point) → are_straight inner ≡ true → NoCallEnds inner → is_only_side (converted_side scope (numbered_side numbering (side_from (λ b. lowered lower inner last b) point))) ≡ true
  side_only numbering inner None e h = refl
  side_only numbering inner (Some point) e h = merged_forks scope (numbered_sequence numbering (lowered lower inner last (begun point))) (numbered_forks lower numbering false inner tree.no_pieces point e refl h tt)

  ends_so : (numbering : n.Scope) (test : PureTree) (left right : PieceTrees) (b : BlockTree) → is_live b ≡ true → is_some (test_of (numbered_block numbering (ends_by_fork lower test left right b)).exit) ≡ true
  ends_so numbering test left right b live =
      test_stays _ (ends_by_fork lower test left right b).exit ∙ ap (λ l. is_some (test_of (if l then forking lower left right b (condition test b) else b).exit)) live

  fork_merges : (numbering : n.Scope) (test : PureTree) (left right : PieceTrees) (end : Point) (b : BlockTree) → EndsNoStraightCall (tree.fork test left right end) → (is_live b && is_straight (tree.fork test left right end)) ≡ true
      → is_some (branches_by (test_of (numbered_block numbering (ends_by_fork lower test left right b)).exit)
      (fork (converted_side scope (numbered_side numbering (side_from (λ b1. lowered lower left last b1) (first_point left)))) (converted_side scope (numbered_side numbering (side_from (λ b1. lowered lower right last b1) (first_point right))))
      (is_live b && is_straight (tree.fork test left right end)))) ≡ true
  fork_merges numbering test left right end b h e =
      let straight = right_true (is_live b) (is_straight (tree.fork test left right end)) e in
      let both = right_true (nat_le (1 + weight test + piece_weights left + piece_weights right) 64) (are_straight left && are_straight right) straight in
      let calls = h.0 straight in
      merges (test_of (numbered_block numbering (ends_by_fork lower test left right b)).exit) _ _ (is_live b && is_straight (tree.fork test left right end)) (ends_so numbering test left right b (left_true (is_live b) (is_straight (tree.fork test left right end)) e)) e
      (side_only numbering left (first_point left) (left_true (are_straight left) (are_straight right) both) calls.0) (side_only numbering right (first_point right) (right_true (are_straight left) (are_straight right) both) calls.1)

  -- ---- loops

  -- the test of a loop is one block that is a test
  test_found : (numbering : n.Scope) (before : PieceTrees) (test : PureTree) (point : Point) → are_marks before ≡ true → NoCallEnds before
      → (x : Operand) × (test_alone (converted_sequence scope (numbered_sequence numbering (lowered lower before (λ b. last (ends_by_test test b)) (begun point)))) ≡ Some x)
  test_found numbering before test point marks calls =
      let t = tests_stand numbering test point in
      let b = numbered_block numbering (ends_by_test test (begun point)) in (
        t.0,
        ap (λ s. test_alone (converted_sequence scope (numbered_sequence numbering s))) (marks_pass lower before (λ b1. last (ends_by_test test b1)) (begun point) marks calls)
            ∙ ap (λ e. test_if b (test_of e)) t.1 ∙ ap (λ c1. if c1 then Some t.0 else None) t.2,
      )

  loop_overlaps : (numbering : n.Scope) (post : Bool) (before : PieceTrees) (test : PureTree) (body step : PieceTrees) (first again : Point) (own : Option Point) → own_step body (first_point step) ≡ own
      → is_eligible post before (weight test) body step ≡ true → NoCallEnds before × NoCallEnds body × NoCallEnds step → scope.loops ≡ true
      → is_loop_node (converted_loop scope.widths (is_eligible post before (weight test) body step && scope.loops) post (converted_sequence scope (numbered_sequence numbering (lowered lower before (λ b. last (ends_by_test test b)) (begun first))))
      (converted_sequence scope (numbered_sequence numbering (with_copies (is_eligible post before (weight test) body step) lower (lowered lower body (λ b1. stepped (λ b2. lowered lower step last b2) own b1) (begun again)))))
      (converted_side scope (numbered_side numbering (side_from (λ b1. lowered lower step last b1) own)))) ≡ true
  loop_overlaps numbering post before test body step first again (Some point) own e calls loops =
      let p = eligible_parts post before (weight test) body step e in
      absurd (no_point (sym own ∙ ap (λ c1. if c1 then first_point step else None) (all_straight_go_on body p.body_straight))) where
        no_point : Some point ≡ None → ⊥
        no_point h = cc
  loop_overlaps numbering post before test body step first again None own e calls loops =
      let p = eligible_parts post before (weight test) body step e in
      let eligible = is_eligible post before (weight test) body step in
      let x = test_found numbering before test first p.marks calls.0 in
      node_by scope.widths (eligible && scope.loops) post (converted_sequence scope (numbered_sequence numbering (lowered lower before (λ b. last (ends_by_test test b)) (begun first)))) (converted_sequence scope (numbered_sequence numbering (body_blocks lower eligible body step again))) no_side x.0
      (λ i. e i && loops i) p.first refl (merged_forks scope (numbered_sequence numbering (body_blocks lower eligible body step again)) (numbered_forks lower numbering eligible body step again p.body_straight p.step_straight calls.1 calls.2)) x.1

  -- ---- switches

  -- A block that is left by a break stays as it is.
  abbrev StaysDead : Rest → Type 0
  StaysDead rest = (b : BlockTree) → b.exit ≡ break_ → (first_of (rest b)).exit ≡ break_

  dead_if : (b x : BlockTree) → b.exit ≡ break_ → (if is_live b then x else b).exit ≡ break_
  dead_if b x e = ap (λ q. (if goes_on q then x else b).exit) e ∙ e

  followed_first : (b : BlockTree) (shape : ShapeTree) (s : SequenceTree) → first_of (followed b shape s) ≡ b
  followed_first b shape (sequence first rest) = refl

  followed_dead : (b : BlockTree) (shape : ShapeTree) (s : SequenceTree) → b.exit ≡ break_ → (first_of (followed b shape s)).exit ≡ break_
  followed_dead b shape s e = ap (λ (x : BlockTree). x.exit) (followed_first b shape s) ∙ e

  piece_dead : (piece : PieceTree) (rest : Rest) → StaysDead rest → StaysDead (λ b. lowered_piece lower piece rest b)
  piece_dead (tree.set name value) rest h b e = h (if is_live b then set lower name value b else b) (dead_if b (set lower name value b) e)
  piece_dead (tree.put array subscripts value at) rest h b e = h (if is_live b then put lower array subscripts value at b else b) (dead_if b (put lower array subscripts value at b) e)
  piece_dead (tree.fork test left right end) rest h b e = followed_dead (ends_by_fork lower test left right b) _ (rest (begun end)) (dead_if b (forking lower left right b (condition test b)) e)
  piece_dead (tree.repeat_ id post before test body step end) rest h b e = followed_dead b _ (rest (begun end)) e
  piece_dead (tree.pick test labels body end) rest h b e = followed_dead (ends_by_cases test labels b) _ (rest (begun end)) (dead_if b _ e)
  piece_dead tree.break_ rest h b e = h (with_exit break_ b) (dead_if b _ e)
  piece_dead tree.next_ rest h b e = h (with_exit continue_ b) (dead_if b _ e)
  piece_dead (tree.leave call) rest h b e = h (with_exit (leave (land_of call)) b) (dead_if b _ e)
  piece_dead (tree.land call end) rest h b e = followed_dead b _ (rest (begun end)) e
  piece_dead (tree.mark point) rest h b e = h b e

  before_dead : (labels : List Label) (i : _) (pieces : PieceTrees) → StaysDead (λ b. before_arm lower labels i pieces b)
  before_dead labels i tree.no_pieces b e = e
  before_dead labels i (tree.then_ piece pieces) b e = by (is_named labels i) (piece_dead piece (λ b1. before_arm lower labels (i + 1) pieces b1) (before_dead labels (i + 1) pieces) b e) where
    by : (named : Bool) → (first_of (lowered_piece lower piece (λ b1. before_arm lower labels (i + 1) pieces b1) b)).exit ≡ break_ → (first_of (if named then last b else lowered_piece lower piece (λ b1. before_arm lower labels (i + 1) pieces b1) b)).exit ≡ break_
    by true h = e
    by false h = h

  parts_convert : (numbering : n.Scope) (s : SequenceTree) → (first_of s).exit ≡ break_ → Convert numbering s → PartsConvert scope None (numbered_parts numbering (parts_of s))
  parts_convert numbering (sequence first rest) e h = subst (λ q. PartsConvert scope (test_of (renamed_exit (numbered_ops numbering first.outs nothing first.ops).values q)) (numbered_parts numbering rest)) e h

  -- ---- pieces

  mutual
    pieces_go : (numbering : n.Scope) (pieces : PieceTrees) (rest : Rest) → NoStraightCallEnds pieces → Goes numbering rest → Goes numbering (λ b. lowered lower pieces rest b)
    pieces_go numbering tree.no_pieces rest calls h b = h b
    pieces_go numbering (tree.then_ piece pieces) rest calls h b = piece_goes numbering piece (λ b1. lowered lower pieces rest b1) calls.0 (pieces_go numbering pieces rest calls.1 h) b

    piece_goes : (numbering : n.Scope) (piece : PieceTree) (rest : Rest) → EndsNoStraightCall piece → Goes numbering rest → Goes numbering (λ b. lowered_piece lower piece rest b)
    piece_goes numbering (tree.set name value) rest calls h b = h _
    piece_goes numbering (tree.put array subscripts value at) rest calls h b = h _
    piece_goes numbering (tree.fork test left right end) rest calls h b =
        followed_goes numbering (ends_by_fork lower test left right b) _ (rest (begun end)) (
          fork_merges numbering test left right end b calls,
          side_goes numbering (λ b1. lowered lower left last b1) (first_point left) (pieces_go numbering left last calls.1 (last_goes numbering)),
          side_goes numbering (λ b1. lowered lower right last b1) (first_point right) (pieces_go numbering right last calls.2 (last_goes numbering)),
        )
        (h (begun end))
    piece_goes numbering (tree.repeat_ id post before test body step end) rest calls h b =
        let eligible = is_eligible post before (weight test) body step in
        let inner = in_loop numbering eligible in
        let own = own_step body (first_point step) in
        let stepping = pieces_go inner step last calls.3 (last_goes inner) in
        followed_goes numbering b _ (rest (begun end)) (
          λ e. loop_overlaps inner post before test body step (or_at end (first_point before)) (or_at end (first_point body)) own refl (left_true eligible scope.loops e) (calls.0 (left_true eligible scope.loops e)) (right_true eligible scope.loops e),
          pieces_go inner before (λ b1. last (ends_by_test test b1)) calls.1 (λ b1. tt) (begun (or_at end (first_point before))),
          copies_convert eligible inner (lowered lower body (λ b1. stepped (λ b2. lowered lower step last b2) own b1) (begun (or_at end (first_point body))))
              (pieces_go inner body (λ b1. stepped (λ b2. lowered lower step last b2) own b1) calls.2 (stepped_goes inner (λ b2. lowered lower step last b2) own stepping) (begun (or_at end (first_point body)))),
          side_goes inner (λ b1. lowered lower step last b1) own stepping,
        )
        (h (begun end))
    piece_goes numbering (tree.pick test labels body end) rest calls h b =
        let dead = record (begun end) { exit = break_ } in
        followed_goes numbering (ends_by_cases test labels b) _ (rest (begun end)) (
          parts_convert numbering (before_arm lower labels _ body dead) (before_dead labels _ body dead refl) (before_goes numbering labels _ body calls dead),
          arms_go numbering labels _ body end calls,
        )
        (h (begun end))
    piece_goes numbering tree.break_ rest calls h b = h _
    piece_goes numbering tree.next_ rest calls h b = h _
    piece_goes numbering (tree.leave call) rest calls h b = h _
    piece_goes numbering (tree.land call end) rest calls h b = followed_goes numbering b _ (rest (begun end)) tt (h (begun end))
    piece_goes numbering (tree.mark point) rest calls h b = h b

    before_goes : (numbering : n.Scope) (labels : List Label) (i : _) (pieces : PieceTrees) → NoStraightCallEnds pieces → Goes numbering (λ b. before_arm lower labels i pieces b)
    before_goes numbering labels i tree.no_pieces calls b = tt
    before_goes numbering labels i (tree.then_ piece pieces) calls b =
        by (is_named labels i) (piece_goes numbering piece (λ b1. before_arm lower labels (i + 1) pieces b1) calls.0 (before_goes numbering labels (i + 1) pieces calls.1) b) where
          by : (named : Bool) → Convert numbering (lowered_piece lower piece (λ b1. before_arm lower labels (i + 1) pieces b1) b) → Convert numbering (if named then last b else lowered_piece lower piece (λ b1. before_arm lower labels (i + 1) pieces b1) b)
          by true h = tt
          by false h = h

    arms_go : (numbering : n.Scope) (labels : List Label) (i : _) (pieces : PieceTrees) (end : Point) → NoStraightCallEnds pieces → ArmsConvert scope (numbered_arms numbering (arms lower labels i pieces end))
    arms_go numbering labels i tree.no_pieces end calls = tt
    arms_go numbering labels i (tree.then_ piece pieces) end calls =
        by (is_named labels i) (piece_goes numbering piece (λ b1. before_arm lower labels (i + 1) pieces b1) calls.0 (before_goes numbering labels (i + 1) pieces calls.1) (begun (or_at end (point_of piece))))
        (arms_go numbering labels (i + 1) pieces end calls.1) where
          arm : SequenceTree
          arm = lowered_piece lower piece (λ b1. before_arm lower labels (i + 1) pieces b1) (begun (or_at end (point_of piece)))

          by : (named : Bool) → Convert numbering arm → ArmsConvert scope (numbered_arms numbering (arms lower labels (i + 1) pieces end))
              → ArmsConvert scope (numbered_arms numbering (if named then more_arms arm (arms lower labels (i + 1) pieces end) else arms lower labels (i + 1) pieces end))
          by true h more = (h, more)
          by false h more = more

pub shapes : LoweredShapesConvert
shapes scope numbering conversion pieces point calls = pieces_go scope conversion numbering pieces last calls (last_goes scope conversion numbering) (begun point)
