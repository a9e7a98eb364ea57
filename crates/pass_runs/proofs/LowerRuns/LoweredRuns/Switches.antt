-- Switches: the block before one, and its arms, of which each leads to the next.
use Rattle.std.proofs.Common.{◌≡◌, ◌∙◌, ℕ, zero, suc, ◌+◌, arith, Bool, true, false, refl, ap, sym, subst, ℤ, List, [], ◌∷◌, Option, Some, None, if◌then◌else◌}
use Rattle.std.specs.Prelude.{◌==◌}
use Rattle.std.specs.Option.{option_map}
use Rattle.std.proofs.lemmas.Bool.{false≢true}
use Rattle.hls_base.specs.declared.point.Point.{Point}
use Rattle.c_value.specs.Values.{promoted}
use Rattle.pieces.specs.declared.piece.CallId.{CallId}
use Rattle.pieces.specs.declared.piece.Label.{Label}
use Rattle.pieces.specs.Kind.{kind}
use Rattle.pieces.specs.Trees as tree
use Rattle.pieces.specs.Trees.{PureTree, PieceTree, PieceTrees}
use Rattle.hls_base.specs.Steps.{Ran, goes, after, then_}
use Rattle.hls_base.specs.Valued.{Valued, is, faulty, valued}
use Rattle.c_meaning.specs.PieceRuns.Values.{Store, value}
use Rattle.c_meaning.specs.PieceRuns.Pieces as p
use Rattle.c_meaning.specs.PieceRuns.Pieces.{Frame, piece_run, pieces_run, landed, from_piece}
use Rattle.ir_core.specs.Bodies.{Words, Ranged, with_outs}
use Rattle.ir_core.specs.Trees.{break_, BlockTree, SequenceTree, PartTrees, no_part, ArmTrees, more_arms, more_parts, ShapeTree, switch, land}
use Rattle.ir_core.specs.TreeRuns as trees
use Rattle.ir_core.specs.TreeRuns.{parts_run, sequence_run, from_arm, first_case, arm_target}
use Rattle.passes.specs.Lowering.Shapes.{or_at, point_of}
use Rattle.passes.specs.Lowering.Expressions.{emitted}
use Rattle.passes.specs.Lowering.Blocks.{begun, cases, choosing, promoted_given, ends_by_cases, with_ops}
use Rattle.passes.specs.Lowering.{Rest, last, followed, land_of, parts_of, is_named, piece_count, targets, other, lowered_piece, before_arm, arms}
use Rattle.pass_runs.specs.LowerRuns.OperatorWords.Words.{IsType, OperatorsAgree}
use Rattle.pass_runs.specs.LowerRuns.Suits.{Suits, shapes_of, scope_of}
use Rattle.pass_runs.proofs.LowerRuns.OperatorWords.Conversions.{naturals_are_words}
use Rattle.pass_runs.proofs.LowerRuns.OperatorWords.Resizing.{conversions_agree}
use Rattle.pass_runs.proofs.LowerRuns.Growing.{grows_on}
use Rattle.pass_runs.proofs.LowerRuns.Converting.{balanced_makes}
use Rattle.pass_runs.proofs.LowerRuns.Showing.{shows_grows}
use Rattle.pass_runs.proofs.LowerRuns.Values.{emitted_evals}
use Rattle.ir_layout.specs.WellFormed.{Inside, has_number, in_arm}
use Rattle.pass_runs.specs.LowerRuns.LoweredTrees.Fitting.{ends_before_arm, with_ends, ArmPiecesFit}
use Rattle.pass_runs.specs.LowerRuns.Holding.{Holds, ArraysAreShort}
use Rattle.pass_runs.specs.LowerRuns.Suiting.{hidden_behind, IsKeptMark, PieceSuits, ArmsSuit}
use Rattle.pass_runs.proofs.LowerRuns.LowerControl.Following.{Follow, Passes, beyond_then, follows_goes, follows_fails, follows_same, follows_next, follows_both}
use Rattle.pass_runs.proofs.LowerRuns.LowerControl.Suits.{ArmSuits}
use Rattle.pass_runs.proofs.LowerRuns.LowerControl.Rests.{first_of, rest_of, IsRest, IsNoEnd, arm_rest, piece_away, followed_rest}
use Rattle.pass_runs.proofs.LowerRuns.LowerControl.Entering.{within, within_block, within_is, sequence_passes, start, Opens, begun_opens, closed_holds, Below, opens_weaker}
use Rattle.pass_runs.proofs.LowerRuns.LowerControl.Targets.{Ends, Arrives, shapes, Run, broke_parts, continued_parts, closes, behind, behind_on, within_followed, follows_end, follows_left, follows_continued, follows_begun, follows_landed}
use Rattle.pass_runs.proofs.LowerRuns.LowerControl.Straight.{live_is}
use Rattle.pass_runs.proofs.LowerRuns.LowerControl.Continues.{number_apart}
use Rattle.pass_runs.proofs.LowerRuns.LowerControl.Cases.{first_label, place, arms_from, all_cases, arm_is, target_there, place_is, arms_same}

suits_type : (f : Frame) (hidden : ℕ → Bool) (x : PureTree) → Suits f hidden x → IsType (kind x)
suits_type f hidden (tree.number w k) h = h.0
suits_type f hidden (tree.variable v k) h = h.0
suits_type f hidden (tree.element array subscripts k at) h = h.0
suits_type f hidden (tree.unary op arg k at) h = h.0
suits_type f hidden (tree.binary op left right k at) h = h.0
suits_type f hidden (tree.choice test left right k) h = h.0
suits_type f hidden (tree.cast to arg) h = h.0

-- ---- the block before a switch

module _ (f : Frame) (operators : OperatorsAgree) (short : ArraysAreShort f) (hidden : ℕ → Bool) (t : Words) (b : BlockTree) (r : Ranged) (s : Store) (h : Opens f hidden t b r s) where
  pub record Switched (x : PureTree) (labels : List Label) (n : ℤ) : Type 0 where
    pub words : Words
    pub holds : Holds f hidden s words
    pub runs : (parts : PartTrees) (k : ℕ) → within_block (shapes f) (ends_by_cases x labels b) parts t k ≡ parts_run (shapes f) parts (trees.cased (first_label (p.switch_word (kind x) n) labels 0)) words k

  pub switch_opens : (x : PureTree) (labels : List Label) (n : ℤ) → Suits f hidden x → value f.arrays x s ≡ is n → Switched x labels n
  switch_opens x labels n suits is_ =
      let k = promoted (kind x) in
      let e = emitted b.outs x b.ops [] in
      let v = emitted_evals f hidden t conversions_agree operators naturals_are_words b.outs s x suits b.ops r [] [] h.at.stands tt h.at.shows (λ all. (n, is_)) in
      let a = balanced_makes (shapes f) t conversions_agree e.ops v.next e.given k (subst IsType (sym v.kind) (suits_type f hidden x suits)) v.stands v.fits in
      let y = promoted_given k e in
      let word = p.switch_word (kind x) n in
      let word_is = a.1.holds ∙ (a.2 n (v.has refl n is_)).word in
      let c = all_cases (shapes f) t k y.operand word labels y.ops a.1.next a.1.stands a.1.fits.early word_is in
      let made = cases k y.operand labels y.ops in
      let to_y = grows_on (shapes f) b.ops e.ops y.ops r v.next a.1.next v.grows a.1.grows in
      let all = grows_on (shapes f) b.ops y.ops made.ops r a.1.next c.next to_y c.grows in
      let shows = shows_grows f hidden b.outs b.ops made.ops r c.next s all h.at.shows in
      let head = choosing b made in record {
        words = with_outs b.outs c.next;
        holds = closed_holds f hidden t (with_ops made.ops b) c.next s (record { stands = c.stands; shows = shows }) h.single;
        runs = λ parts j.
            (ap (λ z. within_block (shapes f) (if z then head else b) parts t j) (live_is f operators short hidden t b r s h)
            ∙ within_is (shapes f) head parts t c.next c.stands j
            ∙ ap (λ z. parts_run (shapes f) parts (trees.cased z) (with_outs b.outs c.next) j) (c.first 0));
      }

-- ---- arms

pub record Marked (kept : Point → Bool) (piece : PieceTree) : Type 0 where
  pub point : Point
  pub is_ : piece ≡ tree.mark point
  pub keeps : kept point ≡ true

pub marked : (kept : Point → Bool) (piece : PieceTree) → IsKeptMark kept piece → Marked kept piece
marked kept (tree.set name value) h = elim h [ ]
marked kept (tree.put array subscripts value at) h = elim h [ ]
marked kept (tree.fork test yes_ no_ end1) h = elim h [ ]
marked kept (tree.repeat_ id post before test body step end1) h = elim h [ ]
marked kept (tree.pick test others body end1) h = elim h [ ]
marked kept tree.break_ h = elim h [ ]
marked kept tree.next_ h = elim h [ ]
marked kept (tree.leave call1) h = elim h [ ]
marked kept (tree.land other end1) h = elim h [ ]
marked kept (tree.mark point) h = record { point = point; is_ = refl; keeps = h }

pub passes_then : {T A B : Type 0} (point : Point) (r q : ℕ → Ran T A) (next : A → T → ℕ → Ran T B) → Passes point r q → Passes point (λ k. then_ (r k) next) (λ k. then_ (q k) next)
passes_then point r q next h = record {
  none = ap (λ o. (after o next).outcome) h.none;
  one = λ k. (ap (λ x. then_ x next) (h.one k) ∙ beyond_then (point ∷ []) (q k) next);
}

module _ (f : Frame) (kept : Point → Bool) (labels : List Label) (end : Point) where
  -- what follows the arm in which the pieces are that begin with this number
  abbrev pub Follower : Type 0
  Follower = trees.Way → Words → ℕ → Ran Words trees.Way

  abbrev pub rest_arms : ℕ → PieceTrees → ArmTrees
  rest_arms i pieces = arms (scope_of f) labels i pieces end

  abbrev pub into : ArmTrees → Follower
  into those w t1 n1 = trees.next_arm (λ t2 n2. from_arm (shapes f) those zero t2 n2) w t1 n1

  abbrev pub here : ℕ → PieceTrees → Rest
  here i pieces b = before_arm (scope_of f) labels i pieces b

  abbrev pub ArmsFollow : PieceTrees → Type 0
  ArmsFollow pieces = (i : ℕ) (inside : Inside) (hidden : ℕ → Bool) → ArmPiecesFit labels i inside pieces → ArmsSuit f kept labels i inside.lands hidden pieces → (t : Words) (b : BlockTree) (r : Ranged) (s : Store) → Opens f hidden t b r s → (n : ℕ)
      → Follow kept (Ends f inside hidden) (pieces_run f pieces s n) (λ k. then_ (within (shapes f) (here i pieces b) t k) (into (rest_arms i pieces)))

  abbrev pub ArmsLanded : PieceTrees → Type 0
  ArmsLanded pieces = (i : ℕ) (inside : Inside) (hidden : ℕ → Bool) → ArmPiecesFit labels i inside pieces → ArmsSuit f kept labels i inside.lands hidden pieces → (call : CallId) → has_number (ends_before_arm labels i pieces inside.lands) call.0 ≡ true
      → (s : Store) (t : Words) → Holds f hidden s t → (q : Run) → ((b : BlockTree) (k : ℕ) → q k ≡ then_ (parts_run (shapes f) (rest_of (here i pieces b)) (trees.left (land_of call)) t k) (into (rest_arms i pieces))) → (n : ℕ)
      → Follow kept (Ends f inside hidden) (landed f pieces call s n) q

  module _ (piece : PieceTree) (pieces : PieceTrees) (i : ℕ) (inside : Inside) (hidden : ℕ → Bool) (fit : ArmPiecesFit labels (i + 1) inside pieces) (suits : ArmsSuit f kept labels (i + 1) inside.lands hidden pieces) (ih : ArmsFollow pieces) (landing : ArmsLanded pieces)
      (below : Below f (hidden_behind hidden hidden piece) hidden) where
    abbrev R : Rest
    R b = here (i + 1) pieces b

    abbrev A : ArmTrees
    A = rest_arms (i + 1) pieces

    abbrev inner : Inside
    inner = with_ends (ends_before_arm labels (i + 1) pieces inside.lands) inside

    arm_next : (way : p.Way) (s : Store) (n : ℕ) (q : Run) → Arrives f inner R hidden (hidden_behind hidden hidden piece) way s q
        → Follow kept (Ends f inside hidden) (p.behind_piece (λ t2 n2. pieces_run f pieces t2 n2) (λ call t2 n2. landed f pieces call t2 n2) way s n) (λ k. then_ (q k) (into A))
    arm_next p.on s n q a =
        follows_same kept (Ends f inside hidden) (pieces_run f pieces s n) (λ k. then_ (q k) (into A)) (λ k. then_ (within (shapes f) (R a.1) a.0 k) (into A)) (λ k. ap (λ x. then_ x (into A)) (a.4 k))
        (ih (i + 1) inside hidden fit suits a.0 a.1 a.2 s (opens_weaker f (hidden_behind hidden hidden piece) hidden a.0 a.1 a.2 s below a.3) n)
    arm_next p.broke s n q a =
        follows_goes kept (Ends f inside hidden) p.broke s n (λ k. then_ (q k) (into A)) (a.0, (a.1.0, a.1.1, λ k. ap (λ x. then_ x (into A)) (a.1.2 (begun end) k ∙ broke_parts (shapes f) (rest_of (R (begun end))) a.1.0 k)))
    arm_next p.continued s n q a =
        follows_goes kept (Ends f inside hidden) p.continued s n (λ k. then_ (q k) (into A)) (a.0, (a.1.0, a.1.1, λ k. ap (λ x. then_ x (into A)) (a.1.2 (begun end) k ∙ continued_parts (shapes f) (rest_of (R (begun end))) a.1.0 k)))
    arm_next (p.left call) s n q a = landing (i + 1) inside hidden fit suits call a.0 s a.1.0 a.1.1 (λ k. then_ (q k) (into A)) (λ c k. ap (λ x. then_ x (into A)) (a.1.2 c k)) n

    -- an arm that begins at a mark
    pub named_follows : (point : Point) → kept point ≡ true → (s : Store) (w : Words) → Holds f hidden s w → (n : ℕ)
        → Follow kept (Ends f inside hidden) (pieces_run f (tree.then_ (tree.mark point) pieces) s n) (λ k. then_ (sequence_run (shapes f) (R (begun point)) w k) (into A))
    named_follows point keeps s w holds n =
        let q = R (begun point) in
        follows_begun f kept (Ends f inside hidden) point keeps pieces s n (λ k. then_ (sequence_run (shapes f) q w k) (into A)) (λ k. then_ (within (shapes f) q w k) (into A))
        (passes_then point (λ k. sequence_run (shapes f) q w k) (within (shapes f) q w) (into A)
        (subst (λ x. Passes x (λ k. sequence_run (shapes f) q w k) (within (shapes f) q w)) ((arm_rest (shapes f) (scope_of f) labels (i + 1) pieces).point (begun point)) (sequence_passes (shapes f) q w)))
        (λ m. ih (i + 1) inside hidden fit suits w (begun point) (start w) s (begun_opens f hidden w s point holds) m)

    abbrev begins : PieceTree → SequenceTree
    begins first = lowered_piece (scope_of f) first (λ b1. R b1) (begun (or_at end (point_of first)))

    -- from the arm on
    pub arm_begins : IsKeptMark kept piece → (s : Store) (w : Words) → Holds f hidden s w → (n : ℕ)
        → Follow kept (Ends f inside hidden) (pieces_run f (tree.then_ piece pieces) s n) (λ k. then_ (sequence_run (shapes f) (begins piece) w k) (into A))
    arm_begins is_mark s w holds n =
        let m = marked kept piece is_mark in
        subst (λ x. Follow kept (Ends f inside hidden) (pieces_run f (tree.then_ x pieces) s n) (λ k. then_ (sequence_run (shapes f) (begins x) w k) (into A))) (sym m.is_) (named_follows m.point m.keeps s w holds n)

    pub arm_follows : (c : Bool) → ArmSuits f kept c (ends_before_arm labels (i + 1) pieces inside.lands) hidden piece
        → (t : Words) (b : BlockTree) (r : Ranged) (s : Store) → Opens f hidden t b r s → (n : ℕ)
        → (PieceSuits f kept (ends_before_arm labels (i + 1) pieces inside.lands) hidden piece → Follow kept (Arrives f inner R hidden (hidden_behind hidden hidden piece)) (piece_run f piece s n) (within (shapes f) (lowered_piece (scope_of f) piece R b) t))
        → Follow kept (Ends f inside hidden) (pieces_run f (tree.then_ piece pieces) s n) (λ k. then_ (within (shapes f) (if c then last b else lowered_piece (scope_of f) piece R b) t k) (into (if c then more_arms (begins piece) A else A)))
    arm_follows true suit t b r s h n one =
        let w = with_outs b.outs r in
        follows_same kept (Ends f inside hidden) (pieces_run f (tree.then_ piece pieces) s n) (λ k. then_ (within (shapes f) (last b) t k) (into (more_arms (begins piece) A))) (λ k. then_ (sequence_run (shapes f) (begins piece) w k) (into A))
        (λ k. ap (λ x. then_ x (into (more_arms (begins piece) A))) (closes f hidden t b r s no_part h k)) (arm_begins suit s w (closed_holds f hidden t b r s h.at h.single) n)
    arm_follows false suit t b r s h n one =
        follows_both kept (Arrives f inner R hidden (hidden_behind hidden hidden piece)) (Ends f inside hidden) (piece_run f piece s n).trace (piece_run f piece s n).outcome
        (λ w t1 n1. p.behind_piece (λ t2 n2. pieces_run f pieces t2 n2) (λ call t2 n2. landed f pieces call t2 n2) w t1 n1) (within (shapes f) (lowered_piece (scope_of f) piece R b) t) (into A) (one suit) arm_next

    -- a return that passes over the piece
    pub skip_arm : IsNoEnd piece → (c : Bool) → (call : CallId) → has_number (if c then inside.lands else ends_before_arm labels (i + 1) pieces inside.lands) call.0 ≡ true → (s : Store) (t : Words) → Holds f hidden s t
        → (q : Run) → ((b : BlockTree) (k : ℕ) → q k ≡ then_ (parts_run (shapes f) (rest_of (if c then last b else lowered_piece (scope_of f) piece R b)) (trees.left (land_of call)) t k) (into (if c then more_arms (begins piece) A else A))) → (n : ℕ)
        → ((call1 : CallId) → has_number inside.lands call1.0 ≡ true → (s1 : Store) (n1 : ℕ) → landed f pieces call1 s1 n1 ≡ goes (p.left call1) s1 n1)
        → Follow kept (Ends f inside hidden) (landed f pieces call s n) q
    skip_arm no_end true call there s t holds q e n none =
        subst (λ x. Follow kept (Ends f inside hidden) x q) (sym (none call there s n)) (follows_goes kept (Ends f inside hidden) (p.left call) s n q (there, (t, holds, λ k. e (begun end) k)))
    skip_arm no_end false call there s t holds q e n none =
        landing (i + 1) inside hidden fit suits call there s t holds q
        (λ c k. e c k ∙ ap (λ x. then_ x (into A)) (piece_away (shapes f) (scope_of f) piece R (arm_rest (shapes f) (scope_of f) labels (i + 1) pieces) no_end c c (land_of call) t k)) n

    -- ---- from a piece that a label names

    abbrev pub FromFollows : PieceTrees → Type 0
    FromFollows those = (i1 j : ℕ) → ArmPiecesFit labels i1 inside those → ArmsSuit f kept labels i1 inside.lands hidden those → is_named labels (i1 + j) ≡ true → (s : Store) (w : Words) → Holds f hidden s w → (n : ℕ)
        → Follow kept (Ends f inside hidden) (from_piece f those j s n) (λ k. from_arm (shapes f) (rest_arms i1 those) (arms_from labels i1 j) w k)

    from_here : (c : Bool) → is_named labels i ≡ c → c ≡ true → ArmSuits f kept c (ends_before_arm labels (i + 1) pieces inside.lands) hidden piece → (s : Store) (w : Words) → Holds f hidden s w → (n : ℕ)
        → Follow kept (Ends f inside hidden) (pieces_run f (tree.then_ piece pieces) s n) (λ k. from_arm (shapes f) (if c then more_arms (begins piece) A else A) zero w k)
    from_here true e h suit s w holds n = arm_begins suit s w holds n
    from_here false e h suit s w holds n = absurd (false≢true h)

    from_there : (c : Bool) (m : ℕ) (w : Words) (k : ℕ) → from_arm (shapes f) (if c then more_arms (begins piece) A else A) (if c then suc m else m) w k ≡ from_arm (shapes f) A m w k
    from_there true m w k = refl
    from_there false m w k = refl

    pub from_zero : ArmSuits f kept (is_named labels i) (ends_before_arm labels (i + 1) pieces inside.lands) hidden piece → is_named labels (i + 0) ≡ true → (s : Store) (w : Words) → Holds f hidden s w → (n : ℕ)
        → Follow kept (Ends f inside hidden) (from_piece f (tree.then_ piece pieces) zero s n) (λ k. from_arm (shapes f) (rest_arms i (tree.then_ piece pieces)) (arms_from labels i zero) w k)
    from_zero suit named s w holds n =
        let e : i ≡ i + 0 = omega arith in from_here (is_named labels i) refl (ap (λ z. is_named labels z) e ∙ named) suit s w holds n

    pub from_suc : (j : ℕ) → FromFollows pieces → is_named labels (i + suc j) ≡ true → (s : Store) (w : Words) → Holds f hidden s w → (n : ℕ)
        → Follow kept (Ends f inside hidden) (from_piece f (tree.then_ piece pieces) (suc j) s n) (λ k. from_arm (shapes f) (rest_arms i (tree.then_ piece pieces)) (arms_from labels i (suc j)) w k)
    from_suc j from named s w holds n =
        let e : i + suc j ≡ i + 1 + j = omega arith in
        follows_same kept (Ends f inside hidden) (from_piece f pieces j s n) (λ k. from_arm (shapes f) (rest_arms i (tree.then_ piece pieces)) (arms_from labels i (suc j)) w k) (λ k. from_arm (shapes f) A (arms_from labels (i + 1) j) w k)
        (λ k. from_there (is_named labels i) (arms_from labels (i + 1) j) w k) (from (i + 1) j fit suits (ap (λ z. is_named labels z) (sym e) ∙ named) s w holds n)

  -- the end of a call in an arm
  module _ (other : CallId) (end1 : Point) (pieces : PieceTrees) (i : ℕ) (inside : Inside) (hidden : ℕ → Bool) (fit : ArmPiecesFit labels (i + 1) inside pieces) (suits : ArmsSuit f kept labels (i + 1) inside.lands hidden pieces) (ih : ArmsFollow pieces) (landing : ArmsLanded pieces) where
    abbrev those : Follower
    those = into (rest_arms (i + 1) pieces)

    abbrev blocks_there : SequenceTree
    blocks_there = here (i + 1) pieces (begun end1)

    arm_end : kept end1 ≡ true → (call : CallId) → has_number (other.0 ∷ ends_before_arm labels (i + 1) pieces inside.lands) call.0 ≡ true → (s : Store) (t : Words) → Holds f hidden s t
        → (q : Run) → ((b : BlockTree) (k : ℕ) → q k ≡ then_ (parts_run (shapes f) (rest_of (followed b (land (land_of other)) blocks_there)) (trees.left (land_of call)) t k) those) → (n : ℕ)
        → (c : Bool) → (call.0 == other.0) ≡ c → Follow kept (Ends f inside hidden) (if c then then_ (p.behind end1 s n) (λ w t1 n1. pieces_run f pieces t1 n1) else landed f pieces call s n) q
    arm_end keeps call there s t holds q e n true is_ =
        let step = λ (k : ℕ). if call.0 == other.0 then behind f blocks_there trees.on t k else parts_run (shapes f) (rest_of blocks_there) (trees.left (land_of call)) t k in
        follows_same kept (Ends f inside hidden) (then_ (p.behind end1 s n) (λ w t1 n1. pieces_run f pieces t1 n1)) q (λ k. then_ (sequence_run (shapes f) blocks_there t k) those)
        (λ k.
        (e (begun end1) k
        ∙ ap (λ x. then_ (parts_run (shapes f) x (trees.left (land_of call)) t k) those) (followed_rest (shapes f) (begun end1) (land (land_of other)) blocks_there)
        ∙ ap (λ (d : Bool). then_ (if d then behind f blocks_there trees.on t k else parts_run (shapes f) (rest_of blocks_there) (trees.left (land_of call)) t k) those) is_
        ∙ ap (λ x. then_ x those) (behind_on f blocks_there t k)))
        (follows_landed f kept (Ends f inside hidden) end1 keeps pieces s n (λ k. then_ (sequence_run (shapes f) blocks_there t k) those) (λ k. then_ (within (shapes f) blocks_there t k) those)
        (passes_then end1 (λ k. sequence_run (shapes f) blocks_there t k) (within (shapes f) blocks_there t) those
        (subst (λ x. Passes x (λ k. sequence_run (shapes f) blocks_there t k) (within (shapes f) blocks_there t)) ((arm_rest (shapes f) (scope_of f) labels (i + 1) pieces).point (begun end1)) (sequence_passes (shapes f) blocks_there t)))
        (λ m. ih (i + 1) inside hidden fit suits t (begun end1) (start t) s (begun_opens f hidden t s end1 holds) m))
    arm_end keeps call there s t holds q e n false is_ =
        landing (i + 1) inside hidden fit suits call (sym (ap (λ (d : Bool). if d then true else has_number (ends_before_arm labels (i + 1) pieces inside.lands) call.0) is_) ∙ there) s t holds q
        (λ b k.
        (e b k
        ∙ ap (λ x. then_ (parts_run (shapes f) x (trees.left (land_of call)) t k) those) (followed_rest (shapes f) b (land (land_of other)) blocks_there)
        ∙ ap (λ (d : Bool). then_ (if d then behind f blocks_there trees.on t k else parts_run (shapes f) (rest_of blocks_there) (trees.left (land_of call)) t k) those) is_
        ∙ ap (λ x. then_ x those) ((arm_rest (shapes f) (scope_of f) labels (i + 1) pieces).away (begun end1) b (land_of call) t k))) n

    pub arm_lands : (c : Bool) → ArmSuits f kept c (ends_before_arm labels (i + 1) pieces inside.lands) hidden (tree.land other end1) → (call : CallId)
        → has_number (if c then inside.lands else (other.0 ∷ ends_before_arm labels (i + 1) pieces inside.lands)) call.0 ≡ true → (s : Store) (t : Words) → Holds f hidden s t
        → (q : Run) → ((b : BlockTree) (k : ℕ) → q k ≡ then_ (parts_run (shapes f) (rest_of (if c then last b else followed b (land (land_of other)) blocks_there)) (trees.left (land_of call)) t k) (into (if c then more_arms (lowered_piece (scope_of f) (tree.land other end1) (λ b1. here (i + 1) pieces b1) (begun end)) (rest_arms (i + 1) pieces) else rest_arms (i + 1) pieces))) → (n : ℕ)
        → Follow kept (Ends f inside hidden) (if call.0 == other.0 then then_ (p.behind end1 s n) (λ w t1 n1. pieces_run f pieces t1 n1) else landed f pieces call s n) q
    arm_lands true suit call there s t holds q e n = elim suit [ ]
    arm_lands false suit call there s t holds q e n = arm_end suit call there s t holds q e n (call.0 == other.0) refl

  -- ---- the whole switch

  module _ (operators : OperatorsAgree) (short : ArraysAreShort f) (inside : Inside) (hidden : ℕ → Bool) (test : PureTree) (body : PieceTrees) (rest : Rest) (is_rest : IsRest (shapes_of f) rest) (suits : PieceSuits f kept inside.lands hidden (tree.pick test labels body end))
      (from : (j : ℕ) → is_named labels (0 + j) ≡ true → (s : Store) (w : Words) → Holds f hidden s w → (n : ℕ) → Follow kept (Ends f (in_arm inside) hidden) (from_piece f body j s n) (λ k. from_arm (shapes f) (rest_arms 0 body) (arms_from labels 0 j) w k)) where
    abbrev pick_known : p.Way → Store → Run → Type 0
    pick_known = Arrives f inside rest hidden hidden

    abbrev way_next : Follower
    way_next w1 t1 n1 = goes (trees.behind_switch w1) t1 n1

    abbrev next_blocks : SequenceTree
    next_blocks = rest (begun end)

    abbrev pieces : ℕ
    pieces = piece_count body

    target_follows : (word : ℕ) (s : Store) (w : Words) → Holds f hidden s w → (n : ℕ) → (o : Option ℕ) → p.target word labels ≡ o
        → Follow kept (Ends f (in_arm inside) hidden) (p.from_target o (λ k t2 n2. from_piece f body k t2 n2) s n) (λ k. trees.from_target (option_map (place labels pieces) o) (λ i1 t1 n1. from_arm (shapes f) (rest_arms 0 body) i1 t1 n1) w k)
    target_follows word s w holds n None e = follows_goes kept (Ends f (in_arm inside) hidden) p.on s n (λ k. goes trees.on w k) (tt, (w, holds, λ k. refl))
    target_follows word s w holds n (Some j) e =
        let there = target_there word labels pieces j suits.2 e in
        let zero_is : 0 + j ≡ j = omega arith in
        follows_same kept (Ends f (in_arm inside) hidden) (from_piece f body j s n) (λ k. from_arm (shapes f) (rest_arms 0 body) (place labels pieces j) w k) (λ k. from_arm (shapes f) (rest_arms 0 body) (arms_from labels 0 j) w k)
        (λ k. ap (λ m. from_arm (shapes f) (rest_arms 0 body) m w k) (place_is labels pieces j there.there ∙ arms_same labels j)) (from j (ap (λ z. is_named labels z) zero_is ∙ there.named) s w holds n)

    behind_arms : (way : p.Way) (s : Store) (n : ℕ) (q : Run) → Ends f (in_arm inside) hidden way s q → Follow kept pick_known (p.behind_switch way end s n) (λ k. then_ (then_ (q k) way_next) (behind f next_blocks))
    behind_arms p.on s n q a = follows_end f kept inside rest is_rest hidden hidden end suits.1 s a.1.0 n (λ k. then_ (then_ (q k) way_next) (behind f next_blocks)) a.1.1 (λ k. ap (λ x. then_ (then_ x way_next) (behind f next_blocks)) (a.1.2 k) ∙ behind_on f next_blocks a.1.0 k)
    behind_arms p.broke s n q a = follows_end f kept inside rest is_rest hidden hidden end suits.1 s a.1.0 n (λ k. then_ (then_ (q k) way_next) (behind f next_blocks)) a.1.1 (λ k. ap (λ x. then_ (then_ x way_next) (behind f next_blocks)) (a.1.2 k) ∙ behind_on f next_blocks a.1.0 k)
    behind_arms p.continued s n q a = follows_continued f kept inside rest is_rest hidden hidden end suits.1 s a.1.0 n (λ k. then_ (then_ (q k) way_next) (behind f next_blocks)) a.0 a.1.1
        (λ k. ap (λ x. then_ (then_ x way_next) (behind f next_blocks)) (a.1.2 k) ∙ continued_parts (shapes f) (rest_of next_blocks) a.1.0 k)
    behind_arms (p.left call) s n q a = follows_left f kept inside rest is_rest hidden hidden end suits.1 call s a.1.0 n (λ k. then_ (then_ (q k) way_next) (behind f next_blocks)) a.0 a.1.1
        (λ k. ap (λ x. then_ (then_ x way_next) (behind f next_blocks)) (a.1.2 k))

    module _ (t : Words) (b : BlockTree) (r : Ranged) (s : Store) (h : Opens f hidden t b r s) where
      abbrev shape : ShapeTree
      shape = switch (parts_of (before_arm (scope_of f) labels 0 body (record (begun end) { exit = break_ }))) (targets labels pieces labels) (other labels pieces labels) (rest_arms 0 body)

      chosen : (x : ℤ) → value f.arrays test s ≡ is x → (n : ℕ)
          → Follow kept pick_known (then_ (p.from_target (p.target (p.switch_word (kind test) x) labels) (λ k t2 n2. from_piece f body k t2 n2) s n) (λ w t2 n2. p.behind_switch w end t2 n2)) (within (shapes f) (followed (ends_by_cases test labels b) shape next_blocks) t)
      chosen x e n =
          let y = switch_opens f operators short hidden t b r s h test labels x suits.0 e in
          let word = p.switch_word (kind test) x in
          let o = p.target word labels in
          let w = y.words in
          let part = p.from_target o (λ k t2 n2. from_piece f body k t2 n2) s n in
          let arm_run : Run = λ k. trees.from_target (option_map (place labels pieces) o) (λ i1 t1 n1. from_arm (shapes f) (rest_arms 0 body) i1 t1 n1) w k in
          let first : p.Way → Store → Run → Type 0 = λ u s1 q1. (q : Run) × Ends f (in_arm inside) hidden u s1 q × (q1 ≡ (λ k. then_ (q k) way_next)) in
          follows_same kept pick_known (then_ part (λ w1 t2 n2. p.behind_switch w1 end t2 n2)) (within (shapes f) (followed (ends_by_cases test labels b) shape next_blocks) t) (λ k. then_ (then_ (arm_run k) way_next) (behind f next_blocks))
          (λ k.
          (within_followed f (ends_by_cases test labels b) shape next_blocks t k
          ∙ y.runs (more_parts shape (first_of next_blocks) (rest_of next_blocks)) k
          ∙ ap (λ z. then_ (then_ (trees.from_target z (λ i1 t1 n1. from_arm (shapes f) (rest_arms 0 body) i1 t1 n1) w k) way_next) (behind f next_blocks)) (arm_is word labels pieces labels)))
          (follows_both kept first pick_known part.trace part.outcome (λ w1 t2 n2. p.behind_switch w1 end t2 n2) (λ k. then_ (arm_run k) way_next) (behind f next_blocks)
          (follows_next kept (Ends f (in_arm inside) hidden) first part.trace part.outcome arm_run way_next (target_follows word s w y.holds n o refl) (λ u s1 q a. (q, a, refl)))
          (λ u s1 n1 q1 a. subst (λ z. Follow kept pick_known (p.behind_switch u end s1 n1) (λ k. then_ (z k) (behind f next_blocks))) (sym a.2) (behind_arms u s1 n1 a.0 a.1)))

      pub pick_follows : (n : ℕ) → Follow kept pick_known (piece_run f (tree.pick test labels body end) s n) (within (shapes f) (lowered_piece (scope_of f) (tree.pick test labels body end) rest b) t)
      pick_follows n = by (value f.arrays test s) refl where
        by : (v : Valued ℤ) → value f.arrays test s ≡ v
            → Follow kept pick_known (valued v (λ x t1 n1. then_ (p.from_target (p.target (p.switch_word (kind test) x) labels) (λ k t2 n2. from_piece f body k t2 n2) t1 n1) (λ w t2 n2. p.behind_switch w end t2 n2)) s n) (within (shapes f) (followed (ends_by_cases test labels b) shape next_blocks) t)
        by (faulty rule at) e = follows_fails kept pick_known rule at (within (shapes f) (followed (ends_by_cases test labels b) shape next_blocks) t)
        by (is x) e = chosen x e n

-- ---- a return that no arm takes

pub none_lands : (f : Frame) (kept : Point → Bool) (labels : List Label) (lands : List ℕ) (hidden : ℕ → Bool) (call : CallId) → has_number lands call.0 ≡ true → (pieces : PieceTrees) (i : ℕ) → ArmsSuit f kept labels i lands hidden pieces → (s : Store) (n : ℕ) → landed f pieces call s n ≡ goes (p.left call) s n
none_lands f kept labels lands hidden call there tree.no_pieces i suits s n = refl
none_lands f kept labels lands hidden call there (tree.then_ (tree.land other end1) rest) i suits s n =
    ap (λ (c : Bool). if c then then_ (p.behind end1 s n) (λ w t1 n1. pieces_run f rest t1 n1) else landed f rest call s n) (number_apart lands call other there suits.1) ∙ none_lands f kept labels lands hidden call there rest (i + 1) suits.2 s n
none_lands f kept labels lands hidden call there (tree.then_ (tree.set name value) rest) i suits s n = none_lands f kept labels lands hidden call there rest (i + 1) suits.2 s n
none_lands f kept labels lands hidden call there (tree.then_ (tree.put array subscripts value at) rest) i suits s n = none_lands f kept labels lands hidden call there rest (i + 1) suits.2 s n
none_lands f kept labels lands hidden call there (tree.then_ (tree.fork test yes_ no_ end1) rest) i suits s n = none_lands f kept labels lands hidden call there rest (i + 1) suits.2 s n
none_lands f kept labels lands hidden call there (tree.then_ (tree.repeat_ id post before test body step end1) rest) i suits s n = none_lands f kept labels lands hidden call there rest (i + 1) suits.2 s n
none_lands f kept labels lands hidden call there (tree.then_ (tree.pick test others body end1) rest) i suits s n = none_lands f kept labels lands hidden call there rest (i + 1) suits.2 s n
none_lands f kept labels lands hidden call there (tree.then_ tree.break_ rest) i suits s n = none_lands f kept labels lands hidden call there rest (i + 1) suits.2 s n
none_lands f kept labels lands hidden call there (tree.then_ tree.next_ rest) i suits s n = none_lands f kept labels lands hidden call there rest (i + 1) suits.2 s n
none_lands f kept labels lands hidden call there (tree.then_ (tree.leave call1) rest) i suits s n = none_lands f kept labels lands hidden call there rest (i + 1) suits.2 s n
none_lands f kept labels lands hidden call there (tree.then_ (tree.mark point) rest) i suits s n = none_lands f kept labels lands hidden call there rest (i + 1) suits.2 s n
