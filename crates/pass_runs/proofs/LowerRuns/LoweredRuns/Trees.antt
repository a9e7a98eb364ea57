-- The blocks of pieces follow their run.
use Rattle.std.proofs.Common.{◌≡◌, ◌∙◌, ℕ, zero, suc, ◌+◌, Bool, true, false, ◌&&◌, refl, ap, sym, subst, inl, inr, List, [], ◌∷◌, Option, Some, None, if◌then◌else◌}
use Rattle.std.specs.Prelude.{◌==◌}
use Rattle.std.proofs.lemmas.Bool.{false≢true}
use Rattle.std.proofs.lemmas.Bool.Decides.{eqb_tells}
use Rattle.hls_base.specs.declared.point.Point.{Point}
use Rattle.hls_base.specs.declared.number.VarId.{VarId}
use Rattle.hls_base.specs.Steps.{Ran, goes, then_}
use Rattle.pieces.specs.declared.piece.CallId.{CallId}
use Rattle.pieces.specs.declared.piece.Label.{Label}
use Rattle.pieces.specs.Trees as tree
use Rattle.pieces.specs.Trees.{PureTree, PieceTree, PieceTrees}
use Rattle.pieces.specs.Weight.{weight}
use Rattle.c_meaning.specs.PieceRuns.Values.{Store}
use Rattle.c_meaning.specs.PieceRuns.Pieces as p
use Rattle.c_meaning.specs.PieceRuns.Pieces.{Frame, piece_run, pieces_run, landed, from_piece}
use Rattle.ir_core.specs.Bodies.{Words, Ranged, with_outs}
use Rattle.ir_core.specs.Trees.{ExitTree, break_, continue_, leave, BlockTree, SequenceTree, SideTree, loop, land, more_parts, no_part, no_arm}
use Rattle.ir_core.specs.TreeRuns as trees
use Rattle.ir_core.specs.TreeRuns.{parts_run, sequence_run, side_run, way_of, from_arm}
use Rattle.passes.specs.Lowering.Shapes.{is_straight, are_straight, is_eligible, any_continues, first_point, or_at}
use Rattle.passes.specs.Lowering.Blocks.{begun, goes_on, with_exit, ends_by_test}
use Rattle.passes.specs.Lowering.Copies.{copied}
use Rattle.passes.specs.Lowering.{Rest, last, followed, land_of, with_copies, own_step, stepped, side_from, lowered, lowered_piece, is_named, before_arm, arms}
use Rattle.pass_runs.specs.LowerRuns.OperatorWords.Words.{OperatorsAgree}
use Rattle.pass_runs.specs.LowerRuns.Suits.{scope_of}
use Rattle.ir_layout.specs.WellFormed.{Inside, has_number, in_test, in_body, in_step, in_arm}
use Rattle.pass_runs.specs.LowerRuns.LoweredTrees.Fitting.{ends_in, ends_before_arm, with_ends, ArmPiecesFit, PieceFits, PiecesFit}
use Rattle.pass_runs.specs.LowerRuns.Holding.{Holds, ArraysAreShort}
use Rattle.pass_runs.specs.LowerRuns.Suiting.{hidden_behind, hidden_at_end, PieceSuits, BeginSuits, PiecesSuit, ArmsSuit}
use Rattle.pass_runs.proofs.LowerRuns.LowerControl.Suits.{StepSuits}
use Rattle.pass_runs.proofs.LowerRuns.LoweredRuns.Bodies.{IsOn, IsDone, copied_from, copied_is, CopiedFollow, copied_list, copied_steps, copied_set, copied_put, copied_mark, copied_land, copied_fork}
use Rattle.pass_runs.proofs.LowerRuns.LowerControl.Copying.{AreSeen}
use Rattle.pass_runs.proofs.LowerRuns.LowerControl.Following.{Follow, Passes, follows_goes, follows_same, follows_then, follows_weaker, follows_dropped}
use Rattle.pass_runs.proofs.LowerRuns.LowerControl.Entering.{within, within_block, within_is, sequence_passes, start, Opens, begun_opens, closed_holds, Below, holds_weaker, opens_weaker}
use Rattle.pass_runs.proofs.LowerRuns.LowerControl.Rests.{first_of, rest_of}
use Rattle.pass_runs.proofs.LowerRuns.LowerControl.Rests.{IsRest, IsNoEnd, last_rest, step_rest, test_step, lowered_rest, arm_rest, piece_away, followed_rest}
use Rattle.pass_runs.proofs.LowerRuns.LowerControl.Targets.{Ends, Arrives, last_ends, shapes, Run, broke_parts, continued_parts, closes, behind, behind_on, within_followed, follows_end, follows_begun, follows_landed}
use Rattle.pass_runs.proofs.LowerRuns.LowerControl.Straight.{live_is, set_follows, put_follows}
use Rattle.pass_runs.proofs.LowerRuns.LowerControl.Forks.{side_of, BranchFollows, fork_follows}
use Rattle.pass_runs.proofs.LowerRuns.LowerControl.Measuring.{Advances}
use Rattle.pass_runs.proofs.LowerRuns.LowerControl.Advancing.{first_advances, last_advances}
use Rattle.pass_runs.proofs.LowerRuns.LowerControl.Continues.{never_again, pieces_never, straight_never, passed_by, and_left, and_right}
use Rattle.pass_runs.proofs.LowerRuns.LowerControl.Cases.{arms_from}
use Rattle.pass_runs.proofs.LowerRuns.LoweredRuns.Switches.{into, ArmsFollow, ArmsLanded, arm_follows, skip_arm, from_zero, from_suc, arm_lands, pick_follows, none_lands}
use Rattle.pass_runs.proofs.LowerRuns.LowerControl.Loops.{OutWays, Told, tested_follows, BodyRound, TurnEnds, apart_rounds, joined_rounds, step_joins, first_follows, last_follows, loop_follows}

-- ---- hidden variables

pub behind_below : (f : Frame) (outside hidden : ℕ → Bool) (piece : PieceTree) → Below f hidden outside → Below f (hidden_behind hidden hidden piece) (hidden_behind outside hidden piece)
behind_below f outside hidden (tree.set name value) le i e = e
behind_below f outside hidden (tree.put array subscripts value at) le i e = e
behind_below f outside hidden (tree.fork test yes_ no_ end) le i e = e
behind_below f outside hidden (tree.repeat_ id post before test body step end) le i e = e
behind_below f outside hidden (tree.pick test labels body end) le i e = e
behind_below f outside hidden tree.break_ le i e = e
behind_below f outside hidden tree.next_ le i e = e
behind_below f outside hidden (tree.leave call) le i e = e
behind_below f outside hidden (tree.land other end) le i e = le i e
behind_below f outside hidden (tree.mark point) le i e = e

behind_out : (f : Frame) (outside hidden : ℕ → Bool) (piece : PieceTree) → Below f hidden outside → Below f (hidden_behind outside hidden piece) outside
behind_out f outside hidden (tree.set name value) le i e = elim (eqb_tells name.0 i) [
  | inl c ↦ ap (λ (b : Bool). if b then false else hidden i) c.0
  | inr c ↦ ap (λ (b : Bool). if b then false else hidden i) c.0 ∙ le i e
]
behind_out f outside hidden (tree.put array subscripts value at) le i e = le i e
behind_out f outside hidden (tree.fork test yes_ no_ end) le i e = le i e
behind_out f outside hidden (tree.repeat_ id post before test body step end) le i e = le i e
behind_out f outside hidden (tree.pick test labels body end) le i e = le i e
behind_out f outside hidden tree.break_ le i e = le i e
behind_out f outside hidden tree.next_ le i e = le i e
behind_out f outside hidden (tree.leave call) le i e = le i e
behind_out f outside hidden (tree.land other end) le i e = e
behind_out f outside hidden (tree.mark point) le i e = le i e

pub end_below : (f : Frame) (outside hidden : ℕ → Bool) (pieces : PieceTrees) → Below f hidden outside → Below f (hidden_at_end outside hidden pieces) outside
end_below f outside hidden tree.no_pieces le i e = le i e
end_below f outside hidden (tree.then_ piece rest) le i e = end_below f outside (hidden_behind outside hidden piece) rest (behind_out f outside hidden piece le) i e

pub at_end : (f : Frame) (pieces : PieceTrees) (hidden : ℕ → Bool) → Below f (hidden_at_end hidden hidden pieces) hidden
at_end f pieces hidden = end_below f hidden hidden pieces (λ i e. e)

same_or : (c : Bool) (lands : List ℕ) (call other : CallId) → (call.0 == other.0) ≡ c → has_number (other.0 ∷ lands) call.0 ≡ true → c ≡ false → has_number lands call.0 ≡ true
same_or c lands call other e h n = sym (ap (λ (b : Bool). if b then true else has_number lands call.0) (e ∙ n)) ∙ h

module _ (f : Frame) (kept : Point → Bool) (operators : OperatorsAgree) (short : ArraysAreShort f) where
  any_rest : (pieces : PieceTrees) (rest : Rest) → IsRest (shapes f) rest → IsRest (shapes f) (λ b. lowered (scope_of f) pieces rest b)
  any_rest pieces rest h = lowered_rest (shapes f) (scope_of f) pieces rest h

  -- ---- jumps

  module _ (inside : Inside) (hidden : ℕ → Bool) (rest : Rest) (is_rest : IsRest (shapes f) rest) (t : Words) (b : BlockTree) (r : Ranged) (s : Store) (h : Opens f hidden t b r s) where
    abbrev known : p.Way → Store → Run → Type 0
    known = Arrives f inside rest hidden hidden

    abbrev w : Words
    w = with_outs b.outs r

    holds : Holds f hidden s w
    holds = closed_holds f hidden t b r s h.at h.single

    -- a block that ends by a jump
    jumps : (exit : ExitTree) → goes_on exit ≡ false → (k : ℕ) → within (shapes f) (rest (with_exit exit b)) t k ≡ parts_run (shapes f) (rest_of (rest (record b { exit = exit }))) (way_of exit r.words r.results) w k
    jumps exit e k =
        let b1 = record b { exit = exit } in
        ap (λ c. within (shapes f) (rest (if c then b1 else b)) t k) (live_is f operators short hidden t b r s h)
        ∙ ap (λ x. within_block (shapes f) x (rest_of (rest b1)) t k) (is_rest.dead b1 e)
        ∙ within_is (shapes f) b1 (rest_of (rest b1)) t r h.at.stands k

    break_follows : inside.leave ≡ true → (n : ℕ) → Follow kept known (goes p.broke s n) (within (shapes f) (rest (with_exit break_ b)) t)
    break_follows fit n = follows_goes kept known p.broke s n (within (shapes f) (rest (with_exit break_ b)) t)
        (fit, (w, holds, λ c k. jumps break_ refl k ∙ broke_parts (shapes f) (rest_of (rest (record b { exit = break_ }))) w k ∙ sym (broke_parts (shapes f) (rest_of (rest c)) w k)))

    next_follows : inside.again ≡ true → (n : ℕ) → Follow kept known (goes p.continued s n) (within (shapes f) (rest (with_exit continue_ b)) t)
    next_follows fit n = follows_goes kept known p.continued s n (within (shapes f) (rest (with_exit continue_ b)) t)
        (fit, (w, holds, λ c k. jumps continue_ refl k ∙ continued_parts (shapes f) (rest_of (rest (record b { exit = continue_ }))) w k ∙ sym (continued_parts (shapes f) (rest_of (rest c)) w k)))

    leave_follows : (call : CallId) → has_number inside.lands call.0 ≡ true → (n : ℕ) → Follow kept known (goes (p.left call) s n) (within (shapes f) (rest (with_exit (leave (land_of call)) b)) t)
    leave_follows call fit n = follows_goes kept known (p.left call) s n (within (shapes f) (rest (with_exit (leave (land_of call)) b)) t)
        (fit, (w, holds, λ c k. jumps (leave (land_of call)) refl k ∙ is_rest.away (record b { exit = leave (land_of call) }) c (land_of call) w k))

    -- ---- points

    mark_follows : (point : Point) → kept point ≡ false → (n : ℕ) → Follow kept known (p.behind point s n) (within (shapes f) (rest b) t)
    mark_follows point e n = follows_dropped kept known point (λ s1 n1. goes p.on s1 n1) s n (within (shapes f) (rest b) t) e
        (λ m. follows_goes kept known p.on s m (within (shapes f) (rest b) t) (t, b, r, h, λ k. refl))

    land_follows : (call : CallId) (end : Point) → kept end ≡ true → (n : ℕ) → Follow kept known (p.behind end s n) (within (shapes f) (followed b (land (land_of call)) (rest (begun end))) t)
    land_follows call end e n =
        let q = rest (begun end) in
        follows_end f kept inside rest is_rest hidden hidden end e s w n (within (shapes f) (followed b (land (land_of call)) q) t) holds
        (λ k. within_followed f b (land (land_of call)) q t k ∙ closes f hidden t b r s (more_parts (land (land_of call)) (first_of q) (rest_of q)) h k ∙ behind_on f q w k)

  -- ---- pieces one after another

  abbrev PiecesFollow : PieceTrees → Type 0
  PiecesFollow pieces = (inside : Inside) (outside hidden : ℕ → Bool) (rest : Rest) → IsRest (shapes f) rest → Below f hidden outside → PiecesFit inside pieces → PiecesSuit f kept inside.lands outside hidden pieces
      → (t : Words) (b : BlockTree) (r : Ranged) (s : Store) → Opens f hidden t b r s → (n : ℕ)
      → Follow kept (Arrives f inside rest outside (hidden_at_end outside hidden pieces)) (pieces_run f pieces s n) (within (shapes f) (lowered (scope_of f) pieces rest b) t)

  abbrev PieceFollows : PieceTree → Type 0
  PieceFollows piece = (inside : Inside) (hidden : ℕ → Bool) (rest : Rest) → IsRest (shapes f) rest → PieceFits inside piece → PieceSuits f kept inside.lands hidden piece
      → (t : Words) (b : BlockTree) (r : Ranged) (s : Store) → Opens f hidden t b r s → (n : ℕ)
      → Follow kept (Arrives f inside rest hidden (hidden_behind hidden hidden piece)) (piece_run f piece s n) (within (shapes f) (lowered_piece (scope_of f) piece rest b) t)

  abbrev BeginFollows : PieceTrees → Type 0
  BeginFollows pieces = (inside : Inside) (hidden : ℕ → Bool) → PiecesFit inside pieces → BeginSuits f kept inside.lands hidden pieces → (end : Point) (rest : Rest) → IsRest (shapes f) rest → (s : Store) (w : Words) → Holds f hidden s w → (n : ℕ)
      → Follow kept (Arrives f inside rest hidden (hidden_at_end hidden hidden pieces)) (pieces_run f pieces s n) (λ k. sequence_run (shapes f) (lowered (scope_of f) pieces rest (begun (or_at end (first_point pieces)))) w k)

  -- a return that leads to the end of a call among the pieces, or behind them
  abbrev LandedFollows : PieceTrees → Type 0
  LandedFollows pieces = (inside : Inside) (outside hidden : ℕ → Bool) (rest : Rest) → IsRest (shapes f) rest → Below f hidden outside → PiecesFit inside pieces → PiecesSuit f kept inside.lands outside hidden pieces
      → (call : CallId) → has_number (ends_in pieces inside.lands) call.0 ≡ true → (s : Store) (t : Words) → Holds f outside s t
      → (q : Run) → ((b : BlockTree) (k : ℕ) → q k ≡ parts_run (shapes f) (rest_of (lowered (scope_of f) pieces rest b)) (trees.left (land_of call)) t k) → (n : ℕ)
      → Follow kept (Arrives f inside rest outside (hidden_at_end outside hidden pieces)) (landed f pieces call s n) q

  -- behind the first of them
  module _ (piece : PieceTree) (pieces : PieceTrees) (inside : Inside) (outside hidden : ℕ → Bool) (rest : Rest) (is_rest : IsRest (shapes f) rest) (le : Below f hidden outside)
      (fit : PiecesFit inside pieces) (suits : PiecesSuit f kept inside.lands outside (hidden_behind outside hidden piece) pieces) (ih : PiecesFollow pieces) (landing : LandedFollows pieces) where
    abbrev more : Rest
    more b = lowered (scope_of f) pieces rest b

    abbrev list_known : p.Way → Store → Run → Type 0
    list_known = Arrives f inside rest outside (hidden_at_end outside (hidden_behind outside hidden piece) pieces)

    list_next : (way : p.Way) (s : Store) (n : ℕ) (q : Run) → Arrives f (with_ends (ends_in pieces inside.lands) inside) more hidden (hidden_behind hidden hidden piece) way s q
        → Follow kept list_known (p.behind_piece (λ t2 n2. pieces_run f pieces t2 n2) (λ call t2 n2. landed f pieces call t2 n2) way s n) q
    list_next p.on s n q a =
        follows_same kept list_known (pieces_run f pieces s n) q (within (shapes f) (more a.1) a.0) a.4
        (ih inside outside (hidden_behind outside hidden piece) rest is_rest (behind_out f outside hidden piece le) fit suits a.0 a.1 a.2 s
        (opens_weaker f (hidden_behind hidden hidden piece) (hidden_behind outside hidden piece) a.0 a.1 a.2 s (behind_below f outside hidden piece le) a.3) n)
    list_next p.broke s n q a =
        follows_goes kept list_known p.broke s n q
        (a.0, (a.1.0, holds_weaker f hidden outside s a.1.0 le a.1.1, λ c k. a.1.2 c k ∙ broke_parts (shapes f) (rest_of (more c)) a.1.0 k ∙ sym (broke_parts (shapes f) (rest_of (rest c)) a.1.0 k)))
    list_next p.continued s n q a =
        follows_goes kept list_known p.continued s n q
        (a.0, (a.1.0, holds_weaker f hidden outside s a.1.0 le a.1.1, λ c k. a.1.2 c k ∙ continued_parts (shapes f) (rest_of (more c)) a.1.0 k ∙ sym (continued_parts (shapes f) (rest_of (rest c)) a.1.0 k)))
    list_next (p.left call) s n q a =
        landing inside outside (hidden_behind outside hidden piece) rest is_rest (behind_out f outside hidden piece le) fit suits call a.0 s a.1.0 (holds_weaker f hidden outside s a.1.0 le a.1.1) q a.1.2 n

    pub list_follows : (t : Words) (b : BlockTree) (s : Store) (n : ℕ)
        → Follow kept (Arrives f (with_ends (ends_in pieces inside.lands) inside) more hidden (hidden_behind hidden hidden piece)) (piece_run f piece s n) (within (shapes f) (lowered_piece (scope_of f) piece more b) t)
        → Follow kept list_known (pieces_run f (tree.then_ piece pieces) s n) (within (shapes f) (lowered_piece (scope_of f) piece more b) t)
    list_follows t b s n h =
        follows_then kept (Arrives f (with_ends (ends_in pieces inside.lands) inside) more hidden (hidden_behind hidden hidden piece)) list_known (piece_run f piece s n).trace (piece_run f piece s n).outcome
        (λ w t1 n1. p.behind_piece (λ t2 n2. pieces_run f pieces t2 n2) (λ call t2 n2. landed f pieces call t2 n2) w t1 n1) (within (shapes f) (lowered_piece (scope_of f) piece more b) t) h list_next

    -- a return that passes over the piece
    pub skip_follows : IsNoEnd piece → (call : CallId) → has_number (ends_in pieces inside.lands) call.0 ≡ true → (s : Store) (t : Words) → Holds f outside s t
        → (q : Run) → ((b : BlockTree) (k : ℕ) → q k ≡ parts_run (shapes f) (rest_of (lowered_piece (scope_of f) piece more b)) (trees.left (land_of call)) t k) → (n : ℕ) → Follow kept list_known (landed f pieces call s n) q
    skip_follows no_end call there s t holds q e n =
        landing inside outside (hidden_behind outside hidden piece) rest is_rest (behind_out f outside hidden piece le) fit suits call there s t holds q
        (λ c k. e c k ∙ piece_away (shapes f) (scope_of f) piece more (any_rest pieces rest is_rest) no_end c c (land_of call) t k) n

  -- the end of a call
  module _ (other : CallId) (end : Point) (pieces : PieceTrees) (inside : Inside) (outside hidden : ℕ → Bool) (rest : Rest) (is_rest : IsRest (shapes f) rest)
      (fit : PiecesFit inside pieces) (keeps : kept end ≡ true) (suits : PiecesSuit f kept inside.lands outside outside pieces) (ih : PiecesFollow pieces) (landing : LandedFollows pieces) where
    abbrev end_known : p.Way → Store → Run → Type 0
    end_known = Arrives f inside rest outside (hidden_at_end outside outside pieces)

    pub landed_here : (call : CallId) → has_number (other.0 ∷ ends_in pieces inside.lands) call.0 ≡ true → (s : Store) (t : Words) → Holds f outside s t
        → (q : Run) → ((b : BlockTree) (k : ℕ) → q k ≡ parts_run (shapes f) (rest_of (followed b (land (land_of other)) (lowered (scope_of f) pieces rest (begun end)))) (trees.left (land_of call)) t k) → (n : ℕ)
        → Follow kept end_known (if call.0 == other.0 then then_ (p.behind end s n) (λ w t1 n1. pieces_run f pieces t1 n1) else landed f pieces call s n) q
    landed_here call there s t holds q e n = by (call.0 == other.0) refl where
      next : SequenceTree
      next = lowered (scope_of f) pieces rest (begun end)

      blocks : (k : ℕ) → q k ≡ (if call.0 == other.0 then behind f next trees.on t k else parts_run (shapes f) (rest_of next) (trees.left (land_of call)) t k)
      blocks k = e (begun end) k ∙ ap (λ x. parts_run (shapes f) x (trees.left (land_of call)) t k) (followed_rest (shapes f) (begun end) (land (land_of other)) next)

      by : (c : Bool) → (call.0 == other.0) ≡ c → Follow kept end_known (if c then then_ (p.behind end s n) (λ w t1 n1. pieces_run f pieces t1 n1) else landed f pieces call s n) q
      by true is_ =
          follows_same kept end_known (then_ (p.behind end s n) (λ w t1 n1. pieces_run f pieces t1 n1)) q (λ k. sequence_run (shapes f) next t k)
          (λ k. blocks k ∙ ap (λ (c : Bool). if c then behind f next trees.on t k else parts_run (shapes f) (rest_of next) (trees.left (land_of call)) t k) is_ ∙ behind_on f next t k)
          (follows_landed f kept end_known end keeps pieces s n (λ k. sequence_run (shapes f) next t k) (within (shapes f) next t)
          (subst (λ x. Passes x (λ k. sequence_run (shapes f) next t k) (within (shapes f) next t)) ((any_rest pieces rest is_rest).point (begun end)) (sequence_passes (shapes f) next t))
          (λ m. ih inside outside outside rest is_rest (λ i z. z) fit suits t (begun end) (start t) s (begun_opens f outside t s end holds) m))
      by false is_ =
          landing inside outside outside rest is_rest (λ i z. z) fit suits call (same_or false (ends_in pieces inside.lands) call other is_ there refl) s t holds q
          (λ b k. blocks k ∙ ap (λ (c : Bool). if c then behind f next trees.on t k else parts_run (shapes f) (rest_of next) (trees.left (land_of call)) t k) is_
          ∙ (any_rest pieces rest is_rest).away (begun end) b (land_of call) t k) n

  -- ---- pieces that begin a block

  pub record Begun (pieces : PieceTrees) : Type 0 where
    pub point : Point
    pub rest : PieceTrees
    pub is_ : pieces ≡ tree.then_ (tree.mark point) rest
    pub keeps : kept point ≡ true

  pub begins_at : (lands : List ℕ) (hidden : ℕ → Bool) (pieces : PieceTrees) → BeginSuits f kept lands hidden pieces → Begun pieces
  begins_at lands hidden tree.no_pieces h = elim h [ ]
  begins_at lands hidden (tree.then_ (tree.set name value) rest) h = elim h [ ]
  begins_at lands hidden (tree.then_ (tree.put array subscripts value at) rest) h = elim h [ ]
  begins_at lands hidden (tree.then_ (tree.fork test yes_ no_ end) rest) h = elim h [ ]
  begins_at lands hidden (tree.then_ (tree.repeat_ id post before test body step end) rest) h = elim h [ ]
  begins_at lands hidden (tree.then_ (tree.pick test labels body end) rest) h = elim h [ ]
  begins_at lands hidden (tree.then_ tree.break_ rest) h = elim h [ ]
  begins_at lands hidden (tree.then_ tree.next_ rest) h = elim h [ ]
  begins_at lands hidden (tree.then_ (tree.leave call1) rest) h = elim h [ ]
  begins_at lands hidden (tree.then_ (tree.land other end) rest) h = elim h [ ]
  begins_at lands hidden (tree.then_ (tree.mark point) rest) h = record { point = point; rest = rest; is_ = refl; keeps = h.0 }

  branch_follows : (pieces : PieceTrees) → BeginFollows pieces → BranchFollows f kept pieces
  branch_follows pieces ih inside hidden fit suits s w holds n =
      let at = begins_at inside.lands hidden pieces suits in
      let first : first_point pieces ≡ Some at.point = ap first_point at.is_ in
      follows_same kept (Arrives f inside last hidden (hidden_at_end hidden hidden pieces)) (pieces_run f pieces s n) (λ k. side_run (shapes f) (side_of f kept pieces) w k)
      (λ k. sequence_run (shapes f) (lowered (scope_of f) pieces last (begun (or_at at.point (first_point pieces)))) w k)
      (λ k.
      (ap (λ o. side_run (shapes f) (side_from (λ b1. lowered (scope_of f) pieces last b1) o) w k) first
      ∙ ap (λ o. sequence_run (shapes f) (lowered (scope_of f) pieces last (begun (or_at at.point o))) w k) (sym first)))
      (ih inside hidden fit suits at.point last (last_rest (shapes f)) s w holds n)

  -- ---- loops

  -- the step of a loop with a continue
  steps_apart : (step : PieceTrees) (inside : Inside) (hidden : ℕ → Bool) (any : BlockTree) → PiecesFit inside step → StepSuits f kept inside.lands hidden true step → BeginFollows step → (o : Option Point) → first_point step ≡ o
      → (s : Store) (w : Words) (n : ℕ) → Holds f hidden s w → Follow kept (Ends f inside hidden) (pieces_run f step s n) (λ k. side_run (shapes f) (side_from (λ b1. lowered (scope_of f) step last b1) o) w k)
  steps_apart tree.no_pieces inside hidden any fit suits ih o e s w n holds =
      subst (λ x. Follow kept (Ends f inside hidden) (goes p.on s n) (λ k. side_run (shapes f) (side_from (λ b1. last b1) x) w k)) e
      (follows_goes kept (Ends f inside hidden) p.on s n (λ k. goes trees.on w k) (tt, (w, holds, λ k. refl)))
  steps_apart (tree.then_ first rest) inside hidden any fit suits ih o e s w n holds =
      let step = tree.then_ first rest in
      let run = pieces_run f step s n in
      subst (λ x. Follow kept (Ends f inside hidden) run (λ k. side_run (shapes f) (side_from (λ b1. lowered (scope_of f) step last b1) x) w k)) e
      (follows_weaker kept (Arrives f inside last hidden (hidden_at_end hidden hidden step)) (Ends f inside hidden) run.trace run.outcome (λ k. side_run (shapes f) (side_of f kept step) w k)
      (λ way s1 q a. last_ends f inside hidden (hidden_at_end hidden hidden step) hidden way s1 q any (λ i z. z) (at_end f step hidden) a)
      (branch_follows step ih inside hidden fit suits s w holds n))

  none_some : (p : Point) → Some p ≡ None → ⊥
  none_some p e = cc

  no_step_there : (lands : List ℕ) (hidden : ℕ → Bool) (step : PieceTrees) → StepSuits f kept lands hidden true step → first_point step ≡ None → step ≡ tree.no_pieces
  no_step_there lands hidden tree.no_pieces suits e = refl
  no_step_there lands hidden (tree.then_ first rest) suits e =
      let at = begins_at lands hidden (tree.then_ first rest) suits in absurd (none_some at.point (sym (ap first_point at.is_) ∙ e))

  -- straight bodies, with copies
  abbrev BodyFollows : PieceTrees → PieceTrees → Type 0
  BodyFollows body step = (inside : Inside) (hidden : ℕ → Bool) (end : Point) → are_straight body ≡ true → are_straight step ≡ true → PiecesFit (in_body inside) body → PiecesFit (in_step inside) step
      → BeginSuits f kept inside.lands hidden body → PiecesSuit f kept inside.lands hidden hidden step → (s : Store) (w : Words) → Holds f hidden s w → (n : ℕ)
      → Follow kept (IsDone f hidden) (then_ (p.turned (pieces_run f body) s n) (λ u s1 n1. p.if_again u (λ s2 n2. p.turned (pieces_run f step) s2 n2) s1 n1))
      (λ k. sequence_run (shapes f) (copied (scope_of f) (lowered (scope_of f) body (λ b1. lowered (scope_of f) step last b1) (begun (or_at end (first_point body))))) w k)

  module _ (post : Bool) (before : PieceTrees) (test : PureTree) (body step : PieceTrees) (end : Point) (inside : Inside) (hidden : ℕ → Bool)
      (fit : PieceFits inside (tree.repeat_ (record { 0 = 0 }) post before test body step end)) (suits : PieceSuits f kept inside.lands hidden (tree.repeat_ (record { 0 = 0 }) post before test body step end))
      (ih_before : BeginFollows before) (ih_body : BeginFollows body) (ih_step : BeginFollows step) (ih_on : PiecesFollow step) (bodies : BodyFollows body step) where
    abbrev some : BlockTree
    some = begun end

    abbrev tests : SequenceTree
    tests = lowered (scope_of f) before (λ b1. last (ends_by_test test b1)) (begun (or_at end (first_point before)))

    tests_follow : (s : Store) (w : Words) (n : ℕ) → Holds f hidden s w → Follow kept (Told f kept operators short inside hidden) (p.tested f (pieces_run f before) test s n) (λ k. sequence_run (shapes f) tests w k)
    tests_follow s w n holds =
        tested_follows f kept operators short inside hidden (hidden_at_end hidden hidden before) (at_end f before hidden) test suits.0 (λ s1 n1. pieces_run f before s1 n1) s n (λ k. sequence_run (shapes f) tests w k)
        (ih_before in_test hidden fit.0 suits.2 end (λ b1. last (ends_by_test test b1)) (step_rest (shapes f) (λ b1. ends_by_test test b1) last (test_step (shapes f) test) (last_rest (shapes f))) s w holds n)

    -- the body alone
    abbrev body_blocks : SequenceTree
    body_blocks = lowered (scope_of f) body last (begun (or_at end (first_point body)))

    body_follows : (s : Store) (w : Words) (n : ℕ) → Holds f hidden s w → Follow kept (Ends f (in_body inside) hidden) (pieces_run f body s n) (λ k. sequence_run (shapes f) body_blocks w k)
    body_follows s w n holds =
        let run = pieces_run f body s n in
        follows_weaker kept (Arrives f (in_body inside) last hidden (hidden_at_end hidden hidden body)) (Ends f (in_body inside) hidden) run.trace run.outcome (λ k. sequence_run (shapes f) body_blocks w k)
        (λ way s1 q a. last_ends f (in_body inside) hidden (hidden_at_end hidden hidden body) hidden way s1 q some (λ i z. z) (at_end f body hidden) a)
        (ih_body (in_body inside) hidden fit.1 suits.3 end last (last_rest (shapes f)) s w holds n)

    abbrev Blocks : Type 0
    Blocks = Words → ℕ → Ran Words trees.Way

    abbrev Rounds : Blocks → Blocks → Type 0
    Rounds blocks steps = BodyRound f kept operators short inside hidden (λ s n. pieces_run f body s n) (λ s n. pieces_run f step s n) blocks steps

    -- the step in blocks of its own
    apart : (o : Option Point) → first_point step ≡ o → StepSuits f kept inside.lands hidden true step → Rounds (λ w k. sequence_run (shapes f) body_blocks w k) (λ w k. side_run (shapes f) (side_from (λ b1. lowered (scope_of f) step last b1) o) w k)
    apart o e suit = apart_rounds f kept operators short inside hidden (in_body inside) (in_step inside) (λ call z. z) (λ call z. z) (λ s n. pieces_run f body s n) (λ s n. pieces_run f step s n)
        (λ w k. sequence_run (shapes f) body_blocks w k) (λ w k. side_run (shapes f) (side_from (λ b1. lowered (scope_of f) step last b1) o) w k) body_follows
        (λ s w n holds. steps_apart step (in_step inside) hidden some fit.2 suit ih_step o e s w n holds)

    -- the step in the last block of the body
    abbrev joined_blocks : SequenceTree
    joined_blocks = lowered (scope_of f) body (λ b1. lowered (scope_of f) step last b1) (begun (or_at end (first_point body)))

    ways : any_continues body ≡ false → OutWays (never_again (in_body inside)) (in_step inside)
    ways e = record { leaves = refl; never = refl; lands = λ call z. z }

    joined : any_continues body ≡ false → StepSuits f kept inside.lands hidden false step → Rounds (λ w k. sequence_run (shapes f) joined_blocks w k) (λ w k. goes trees.on w k)
    joined e suit =
        joined_rounds f kept operators short inside hidden (in_step inside) (λ call z. z) (λ s n. pieces_run f body s n) (λ s n. pieces_run f step s n) (λ w k. sequence_run (shapes f) joined_blocks w k)
        (λ s w n holds.
        step_joins f kept operators short inside hidden (never_again (in_body inside)) (in_step inside) (ways e) (λ b1. lowered (scope_of f) step last b1)
        (λ b call there w1 k. passed_by (shapes f) (scope_of f) inside.lands call there step suit.1 b w1 k) some hidden (hidden_at_end hidden hidden body) (λ i z. z)
        (λ s1 n1. pieces_run f body s1 n1) (λ s1 n1. pieces_run f step s1 n1) (λ s1 n1 q a. stepping s1 n1 q a) s n (λ k. sequence_run (shapes f) joined_blocks w k)
        (ih_body (never_again (in_body inside)) hidden (pieces_never body (in_body inside) e fit.1) suits.3 end (λ b1. lowered (scope_of f) step last b1) (any_rest step last (last_rest (shapes f))) s w holds n))
      where
        stepping : (s1 : Store) (n1 : ℕ) (q : Run) → Arrives f (never_again (in_body inside)) (λ b1. lowered (scope_of f) step last b1) hidden (hidden_at_end hidden hidden body) p.on s1 q → Follow kept (Ends f (in_step inside) hidden) (pieces_run f step s1 n1) q
        stepping s1 n1 q a =
            let run = pieces_run f step s1 n1 in
            let g = within (shapes f) (lowered (scope_of f) step last a.1) a.0 in
            follows_same kept (Ends f (in_step inside) hidden) run q g a.4
            (follows_weaker kept (Arrives f (in_step inside) last hidden (hidden_at_end hidden hidden step)) (Ends f (in_step inside) hidden) run.trace run.outcome g
            (λ way s2 q2 b. last_ends f (in_step inside) hidden (hidden_at_end hidden hidden step) hidden way s2 q2 some (λ i z. z) (at_end f step hidden) b)
            (ih_on (in_step inside) hidden hidden last (last_rest (shapes f)) (λ i z. z) fit.2 suit.0 a.0 a.1 a.2 s1 (opens_weaker f (hidden_at_end hidden hidden body) hidden a.0 a.1 a.2 s1 (at_end f body hidden) a.3) n1))

    -- ---- the blocks of the body, and those of the step

    abbrev body_of : Option Point → SequenceTree
    body_of o = lowered (scope_of f) body (λ b1. stepped (λ b2. lowered (scope_of f) step last b2) o b1) (begun (or_at end (first_point body)))

    abbrev step_of : Option Point → SideTree
    step_of o = side_from (λ b1. lowered (scope_of f) step last b1) o

    -- with a continue
    apart_at : (o : Option Point) → first_point step ≡ o → StepSuits f kept inside.lands hidden true step → Rounds (λ w k. sequence_run (shapes f) (body_of o) w k) (λ w k. side_run (shapes f) (step_of o) w k)
    apart_at (Some q) e suit = apart (Some q) e suit
    apart_at None e suit =
        let nothing : step ≡ tree.no_pieces = no_step_there inside.lands hidden step suit e in
        let same : body_of None ≡ body_blocks = ap (λ x. lowered (scope_of f) body (λ b1. lowered (scope_of f) x last b1) (begun (or_at end (first_point body)))) nothing in
        subst (λ x. Rounds (λ w k. sequence_run (shapes f) x w k) (λ w k. side_run (shapes f) (step_of None) w k)) (sym same) (apart None e suit)

    -- with copies
    copied_rounds : are_straight body ≡ true → are_straight step ≡ true → any_continues body ≡ false → StepSuits f kept inside.lands hidden false step
        → Rounds (λ w k. sequence_run (shapes f) (copied (scope_of f) joined_blocks) w k) (λ w k. goes trees.on w k)
    copied_rounds e1 e2 e suit =
        joined_rounds f kept operators short inside hidden (in_step inside) (λ call z. z) (λ s n. pieces_run f body s n) (λ s n. pieces_run f step s n) (λ w k. sequence_run (shapes f) (copied (scope_of f) joined_blocks) w k)
        (λ s w n holds.
        (let r = then_ (p.turned (pieces_run f body) s n) (λ u s1 n1. p.if_again u (λ s2 n2. p.turned (pieces_run f step) s2 n2) s1 n1) in
        follows_weaker kept (λ u s1 q. (u ≡ p.again) × ((w1 : Words) × Holds f hidden s1 w1 × ((k : ℕ) → q k ≡ goes trees.on w1 k))) (TurnEnds f kept operators short inside hidden (in_step inside)) r.trace r.outcome
        (λ k. sequence_run (shapes f) (copied (scope_of f) joined_blocks) w k) (λ u s1 q a. (p.on, a.0, (tt, a.1)))
        (bodies inside hidden end e1 e2 fit.1 fit.2 suits.3 suit.0 s w holds n)))

    straight_both : (m : Bool) (k : Bool) → (m && (k && (are_straight body && are_straight step))) ≡ true → (are_straight body ≡ true) × (are_straight step ≡ true)
    straight_both m k e =
        let h = and_right k (are_straight body && are_straight step) (and_right m (k && (are_straight body && are_straight step)) e) in
        (and_left (are_straight body) (are_straight step) h, and_right (are_straight body) (are_straight step) h)

    rounds_of : (flag c : Bool) → (flag ≡ true → (are_straight body ≡ true) × (are_straight step ≡ true)) → any_continues body ≡ c → StepSuits f kept inside.lands hidden c step
        → Rounds (λ w k. sequence_run (shapes f) (with_copies flag (scope_of f) (body_of (if c then first_point step else None))) w k) (λ w k. side_run (shapes f) (step_of (if c then first_point step else None)) w k)
    rounds_of false true h e suit = apart_at (first_point step) refl suit
    rounds_of false false h e suit = joined e suit
    rounds_of true true h e suit = absurd (false≢true (sym (straight_never body (h refl).0) ∙ e))
    rounds_of true false h e suit = copied_rounds (h refl).0 (h refl).1 e suit

    module _ (rest : Rest) (is_rest : IsRest (shapes f) rest) (w : Words) (b : BlockTree) (r : Ranged) (s : Store) (h : Opens f hidden w b r s) where
      -- the test first
      while_follows : (is_ : post ≡ false) (n : ℕ)
          → Follow kept (Arrives f inside rest hidden hidden) (then_ (p.repeat n (p.test_first f (pieces_run f before) test (pieces_run f body) (pieces_run f step)) s n) (λ u t1 n1. p.behind_loop u end t1 n1))
          (within (shapes f) (followed b (loop false tests (with_copies (is_eligible false before (weight test) body step) (scope_of f) (body_of (own_step body (first_point step)))) (step_of (own_step body (first_point step))) (is_eligible false before (weight test) body step)) (rest (begun end))) w)
      while_follows is_ n =
          let flag = is_eligible false before (weight test) body step in
          let at = begins_at [] hidden before suits.2 in
          let blocks = with_copies flag (scope_of f) (body_of (own_step body (first_point step))) in
          let steps = step_of (own_step body (first_point step)) in
          let rounds = rounds_of flag (any_continues body) (straight_both _ _) refl suits.4 in
          let round = λ (s1 : Store) (n1 : ℕ). p.test_first f (pieces_run f before) test (pieces_run f body) (pieces_run f step) s1 n1 in
          let turn = λ (w1 : Words) (k : ℕ). trees.test_first (sequence_run (shapes f) tests) (sequence_run (shapes f) blocks) (side_run (shapes f) steps) w1 k in
          loop_follows f kept operators short inside hidden rest is_rest end suits.1 round turn
          (first_follows f kept operators short inside hidden test (λ s1 n1. pieces_run f before s1 n1) (λ s1 n1. pieces_run f body s1 n1) (λ s1 n1. pieces_run f step s1 n1)
          (λ w1 k. sequence_run (shapes f) tests w1 k) (λ w1 k. sequence_run (shapes f) blocks w1 k) (λ w1 k. side_run (shapes f) steps w1 k) tests_follow rounds)
          (λ s1 n1. subst (λ x. Advances kept (p.test_first f (pieces_run f x) test (pieces_run f body) (pieces_run f step) s1 n1).trace (p.test_first f (pieces_run f x) test (pieces_run f body) (pieces_run f step) s1 n1).outcome) (sym at.is_)
          (first_advances kept f at.point at.rest at.keeps test s1 n1 (λ s2 n2. pieces_run f body s2 n2) (λ s2 n2. pieces_run f step s2 n2)))
          (loop false tests blocks steps flag) (λ w1 k. refl) (λ after more1 w1 k. refl) w b r s h n

      -- the body first
      body_is : step ≡ tree.no_pieces → (c : Bool) → lowered (scope_of f) body (λ b1. stepped (λ b2. lowered (scope_of f) step last b2) (if c then first_point step else None) b1) (begun (or_at end (first_point body))) ≡ body_blocks
      body_is e c = ap (λ x. lowered (scope_of f) body (λ b1. stepped (λ b2. lowered (scope_of f) x last b2) (if c then first_point x else None) b1) (begun (or_at end (first_point body)))) e ∙ by c where
        by : (c1 : Bool) → lowered (scope_of f) body (λ b1. stepped (λ b2. last b2) (if c1 then None else None) b1) (begun (or_at end (first_point body))) ≡ body_blocks
        by true = refl
        by false = refl

      do_follows : step ≡ tree.no_pieces → (n : ℕ)
          → Follow kept (Arrives f inside rest hidden hidden) (then_ (p.repeat n (p.test_last f (pieces_run f before) test (pieces_run f body)) s n) (λ u t1 n1. p.behind_loop u end t1 n1))
          (within (shapes f) (followed b (loop true tests (body_of (own_step body (first_point step))) (step_of (own_step body (first_point step))) false) (rest (begun end))) w)
      do_follows e n =
          let at = begins_at inside.lands hidden body suits.3 in
          let blocks = body_of (own_step body (first_point step)) in
          let steps = step_of (own_step body (first_point step)) in
          let round = λ (s1 : Store) (n1 : ℕ). p.test_last f (pieces_run f before) test (pieces_run f body) s1 n1 in
          let turn = λ (w1 : Words) (k : ℕ). trees.test_last (sequence_run (shapes f) tests) (sequence_run (shapes f) blocks) w1 k in
          loop_follows f kept operators short inside hidden rest is_rest end suits.1 round turn
          (last_follows f kept operators short inside hidden test (in_body inside) (λ call z. z) (λ s1 n1. pieces_run f before s1 n1) (λ s1 n1. pieces_run f body s1 n1)
          (λ w1 k. sequence_run (shapes f) tests w1 k) (λ w1 k. sequence_run (shapes f) blocks w1 k) tests_follow
          (λ s1 w1 n1 x. subst (λ q. Follow kept (Ends f (in_body inside) hidden) (pieces_run f body s1 n1) (λ k. sequence_run (shapes f) q w1 k)) (sym (body_is e (any_continues body))) (body_follows s1 w1 n1 x)))
          (λ s1 n1. subst (λ x. Advances kept (p.test_last f (pieces_run f before) test (pieces_run f x) s1 n1).trace (p.test_last f (pieces_run f before) test (pieces_run f x) s1 n1).outcome) (sym at.is_)
          (last_advances kept f at.point at.rest at.keeps test s1 n1 (λ s2 n2. pieces_run f before s2 n2)))
          (loop true tests blocks steps false) (λ w1 k. refl) (λ after more1 w1 k. refl) w b r s h n

  repeat_follows : (post : Bool) (before : PieceTrees) (test : PureTree) (body step : PieceTrees) (end : Point) → BeginFollows before → BeginFollows body → BeginFollows step → PiecesFollow step → BodyFollows body step
      → (id : _) → PieceFollows (tree.repeat_ id post before test body step end)
  repeat_follows true before test body step end ih1 ih2 ih3 ih4 ih5 id inside hidden rest is_rest fit suits w b r s h n = do_follows true before test body step end inside hidden fit suits ih1 ih2 ih3 ih4 ih5 rest is_rest w b r s h fit.3 n
  repeat_follows false before test body step end ih1 ih2 ih3 ih4 ih5 id inside hidden rest is_rest fit suits w b r s h n = while_follows false before test body step end inside hidden fit suits ih1 ih2 ih3 ih4 ih5 rest is_rest w b r s h refl n

  -- ---- all pieces

  mutual
    piece_follows : (piece : PieceTree) → PieceFollows piece
    piece_follows (tree.set name value) inside hidden rest is_rest fit suits t b r s h n = set_follows f operators short hidden t b r s h kept inside rest hidden name value n suits.0 suits.1
    piece_follows (tree.put array subscripts value at) inside hidden rest is_rest fit suits t b r s h n = put_follows f operators short hidden t b r s h kept inside rest hidden array subscripts value at n suits.0 suits.1
    piece_follows (tree.fork test yes_ no_ end) inside hidden rest is_rest fit suits t b r s h n =
        fork_follows f kept operators short (at_end f) hidden t b r s h inside rest is_rest test yes_ no_ end fit.0 fit.1 suits
        (branch_follows yes_ (begin_follows yes_)) (branch_follows no_ (begin_follows no_)) n
    piece_follows (tree.repeat_ id post before test body step end) inside hidden rest is_rest fit suits t b r s h n =
        repeat_follows post before test body step end (begin_follows before) (begin_follows body) (begin_follows step) (pieces_follow step) (body_follows_copied body step (copied_pieces step)) id inside hidden rest is_rest fit suits t b r s h n
    piece_follows (tree.pick test labels body end) inside hidden rest is_rest fit suits t b r s h n =
        pick_follows f kept labels end operators short inside hidden test body rest is_rest suits (λ j named s1 w holds m. from_follows body labels end 0 j (in_arm inside) hidden fit suits.3 named s1 w holds m) t b r s h n
    piece_follows tree.break_ inside hidden rest is_rest fit suits t b r s h n = break_follows inside hidden rest is_rest t b r s h fit n
    piece_follows tree.next_ inside hidden rest is_rest fit suits t b r s h n = next_follows inside hidden rest is_rest t b r s h fit n
    piece_follows (tree.leave call) inside hidden rest is_rest fit suits t b r s h n = leave_follows inside hidden rest is_rest t b r s h call fit n
    piece_follows (tree.land call end) inside hidden rest is_rest fit suits t b r s h n = land_follows inside hidden rest is_rest t b r s h call end suits n
    piece_follows (tree.mark point) inside hidden rest is_rest fit suits t b r s h n = mark_follows inside hidden rest is_rest t b r s h point suits n

    pieces_follow : (pieces : PieceTrees) → PiecesFollow pieces
    pieces_follow tree.no_pieces inside outside hidden rest is_rest le fit suits t b r s h n =
        follows_goes kept (Arrives f inside rest outside (hidden_at_end outside hidden tree.no_pieces)) p.on s n (within (shapes f) (rest b) t) (t, b, r, h, λ k. refl)
    pieces_follow (tree.then_ piece pieces) inside outside hidden rest is_rest le fit suits t b r s h n =
        list_follows piece pieces inside outside hidden rest is_rest le fit.1 suits.1 (pieces_follow pieces) (landed_follows pieces) t b s n
        (piece_follows piece (with_ends (ends_in pieces inside.lands) inside) hidden (λ b1. lowered (scope_of f) pieces rest b1) (any_rest pieces rest is_rest) fit.0 suits.0 t b r s h n)

    landed_follows : (pieces : PieceTrees) → LandedFollows pieces
    landed_follows tree.no_pieces inside outside hidden rest is_rest le fit suits call there s t holds q e n =
        follows_goes kept (Arrives f inside rest outside (hidden_at_end outside hidden tree.no_pieces)) (p.left call) s n q (there, (t, holds, e))
    landed_follows (tree.then_ (tree.land other end) pieces) inside outside hidden rest is_rest le fit suits call there s t holds q e n =
        landed_here other end pieces inside outside hidden rest is_rest fit.1 suits.0 suits.1 (pieces_follow pieces) (landed_follows pieces) call there s t holds q e n
    landed_follows (tree.then_ (tree.set name value) pieces) inside outside hidden rest is_rest le fit suits call there s t holds q e n =
        skip_follows (tree.set name value) pieces inside outside hidden rest is_rest le fit.1 suits.1 (pieces_follow pieces) (landed_follows pieces) tt call there s t holds q e n
    landed_follows (tree.then_ (tree.put array subscripts value at) pieces) inside outside hidden rest is_rest le fit suits call there s t holds q e n =
        skip_follows (tree.put array subscripts value at) pieces inside outside hidden rest is_rest le fit.1 suits.1 (pieces_follow pieces) (landed_follows pieces) tt call there s t holds q e n
    landed_follows (tree.then_ (tree.fork test yes_ no_ end) pieces) inside outside hidden rest is_rest le fit suits call there s t holds q e n =
        skip_follows (tree.fork test yes_ no_ end) pieces inside outside hidden rest is_rest le fit.1 suits.1 (pieces_follow pieces) (landed_follows pieces) tt call there s t holds q e n
    landed_follows (tree.then_ (tree.repeat_ id post before test body step end) pieces) inside outside hidden rest is_rest le fit suits call there s t holds q e n =
        skip_follows (tree.repeat_ id post before test body step end) pieces inside outside hidden rest is_rest le fit.1 suits.1 (pieces_follow pieces) (landed_follows pieces) tt call there s t holds q e n
    landed_follows (tree.then_ (tree.pick test labels body end) pieces) inside outside hidden rest is_rest le fit suits call there s t holds q e n =
        skip_follows (tree.pick test labels body end) pieces inside outside hidden rest is_rest le fit.1 suits.1 (pieces_follow pieces) (landed_follows pieces) tt call there s t holds q e n
    landed_follows (tree.then_ tree.break_ pieces) inside outside hidden rest is_rest le fit suits call there s t holds q e n =
        skip_follows tree.break_ pieces inside outside hidden rest is_rest le fit.1 suits.1 (pieces_follow pieces) (landed_follows pieces) tt call there s t holds q e n
    landed_follows (tree.then_ tree.next_ pieces) inside outside hidden rest is_rest le fit suits call there s t holds q e n =
        skip_follows tree.next_ pieces inside outside hidden rest is_rest le fit.1 suits.1 (pieces_follow pieces) (landed_follows pieces) tt call there s t holds q e n
    landed_follows (tree.then_ (tree.leave call1) pieces) inside outside hidden rest is_rest le fit suits call there s t holds q e n =
        skip_follows (tree.leave call1) pieces inside outside hidden rest is_rest le fit.1 suits.1 (pieces_follow pieces) (landed_follows pieces) tt call there s t holds q e n
    landed_follows (tree.then_ (tree.mark point) pieces) inside outside hidden rest is_rest le fit suits call there s t holds q e n =
        skip_follows (tree.mark point) pieces inside outside hidden rest is_rest le fit.1 suits.1 (pieces_follow pieces) (landed_follows pieces) tt call there s t holds q e n

    pub begin_follows : (pieces : PieceTrees) → BeginFollows pieces
    begin_follows tree.no_pieces inside hidden fit suits behind_it rest is_rest s w holds n = elim suits [ ]
    begin_follows (tree.then_ (tree.mark point) pieces) inside hidden fit suits behind_it rest is_rest s w holds n =
        let q = lowered (scope_of f) pieces rest (begun point) in
        follows_begun f kept (Arrives f inside rest hidden (hidden_at_end hidden hidden pieces)) point suits.0 pieces s n (λ k. sequence_run (shapes f) q w k) (within (shapes f) q w)
        (subst (λ x. Passes x (λ k. sequence_run (shapes f) q w k) (within (shapes f) q w)) ((any_rest pieces rest is_rest).point (begun point)) (sequence_passes (shapes f) q w))
        (λ m. pieces_follow pieces inside hidden hidden rest is_rest (λ i z. z) fit.1 suits.1 w (begun point) (start w) s (begun_opens f hidden w s point holds) m)
    begin_follows (tree.then_ (tree.set name value) pieces) inside hidden fit suits behind_it rest is_rest s w holds n = elim suits [ ]
    begin_follows (tree.then_ (tree.put array subscripts value at) pieces) inside hidden fit suits behind_it rest is_rest s w holds n = elim suits [ ]
    begin_follows (tree.then_ (tree.fork test yes_ no_ end) pieces) inside hidden fit suits behind_it rest is_rest s w holds n = elim suits [ ]
    begin_follows (tree.then_ (tree.repeat_ id post before test body step end) pieces) inside hidden fit suits behind_it rest is_rest s w holds n = elim suits [ ]
    begin_follows (tree.then_ (tree.pick test labels body end) pieces) inside hidden fit suits behind_it rest is_rest s w holds n = elim suits [ ]
    begin_follows (tree.then_ tree.break_ pieces) inside hidden fit suits behind_it rest is_rest s w holds n = elim suits [ ]
    begin_follows (tree.then_ tree.next_ pieces) inside hidden fit suits behind_it rest is_rest s w holds n = elim suits [ ]
    begin_follows (tree.then_ (tree.leave call1) pieces) inside hidden fit suits behind_it rest is_rest s w holds n = elim suits [ ]
    begin_follows (tree.then_ (tree.land other end) pieces) inside hidden fit suits behind_it rest is_rest s w holds n = elim suits [ ]

    -- ---- arms of switches

    arms_follow : (pieces : PieceTrees) (labels : List Label) (end : Point) → ArmsFollow f kept labels end pieces
    arms_follow tree.no_pieces labels end i inside hidden fit suits t b r s h n =
        follows_goes kept (Ends f inside hidden) p.on s n (λ k. then_ (within (shapes f) (last b) t k) (into f kept labels end no_arm))
        (tt, (with_outs b.outs r, closed_holds f hidden t b r s h.at h.single, λ k. ap (λ x. then_ x (into f kept labels end no_arm)) (closes f hidden t b r s no_part h k)))
    arms_follow (tree.then_ piece pieces) labels end i inside hidden fit suits t b r s h n =
        arm_follows f kept labels end piece pieces i inside hidden fit.1 suits.2 (arms_follow pieces labels end) (arms_landed pieces labels end) (behind_out f hidden hidden piece (λ j e. e)) (is_named labels i) suits.0 t b r s h n
        (λ suit. piece_follows piece (with_ends (ends_before_arm labels (i + 1) pieces inside.lands) inside) hidden (λ b1. before_arm (scope_of f) labels (i + 1) pieces b1) (arm_rest (shapes f) (scope_of f) labels (i + 1) pieces) fit.0 suit t b r s h n)

    arms_landed : (pieces : PieceTrees) (labels : List Label) (end : Point) → ArmsLanded f kept labels end pieces
    arms_landed tree.no_pieces labels end i inside hidden fit suits call there s t holds q e n =
        follows_goes kept (Ends f inside hidden) (p.left call) s n q (there, (t, holds, λ k. e (begun end) k))
    arms_landed (tree.then_ (tree.land other end1) pieces) labels end i inside hidden fit suits call there s t holds q e n =
        arm_lands f kept labels end other end1 pieces i inside hidden fit.1 suits.2 (arms_follow pieces labels end) (arms_landed pieces labels end) (is_named labels i) suits.0 call there s t holds q e n
    arms_landed (tree.then_ (tree.set name value) pieces) labels end i inside hidden fit suits call there s t holds q e n =
        skip_arm f kept labels end (tree.set name value) pieces i inside hidden fit.1 suits.2 (arms_follow pieces labels end) (arms_landed pieces labels end) (behind_out f hidden hidden (tree.set name value) (λ j x. x)) tt (is_named labels i) call there s t holds q e n
        (λ call2 there2 s2 n2. none_lands f kept labels inside.lands hidden call2 there2 pieces (i + 1) suits.2 s2 n2)
    arms_landed (tree.then_ (tree.put array subscripts value at) pieces) labels end i inside hidden fit suits call there s t holds q e n =
        skip_arm f kept labels end (tree.put array subscripts value at) pieces i inside hidden fit.1 suits.2 (arms_follow pieces labels end) (arms_landed pieces labels end) (behind_out f hidden hidden (tree.put array subscripts value at) (λ j x. x)) tt (is_named labels i) call there s t holds q e n
        (λ call2 there2 s2 n2. none_lands f kept labels inside.lands hidden call2 there2 pieces (i + 1) suits.2 s2 n2)
    arms_landed (tree.then_ (tree.fork test yes_ no_ end1) pieces) labels end i inside hidden fit suits call there s t holds q e n =
        skip_arm f kept labels end (tree.fork test yes_ no_ end1) pieces i inside hidden fit.1 suits.2 (arms_follow pieces labels end) (arms_landed pieces labels end) (behind_out f hidden hidden (tree.fork test yes_ no_ end1) (λ j x. x)) tt (is_named labels i) call there s t holds q e n
        (λ call2 there2 s2 n2. none_lands f kept labels inside.lands hidden call2 there2 pieces (i + 1) suits.2 s2 n2)
    arms_landed (tree.then_ (tree.repeat_ id post before test body step end1) pieces) labels end i inside hidden fit suits call there s t holds q e n =
        skip_arm f kept labels end (tree.repeat_ id post before test body step end1) pieces i inside hidden fit.1 suits.2 (arms_follow pieces labels end) (arms_landed pieces labels end) (behind_out f hidden hidden (tree.repeat_ id post before test body step end1) (λ j x. x)) tt (is_named labels i) call there s t holds q e n
        (λ call2 there2 s2 n2. none_lands f kept labels inside.lands hidden call2 there2 pieces (i + 1) suits.2 s2 n2)
    arms_landed (tree.then_ (tree.pick test others body end1) pieces) labels end i inside hidden fit suits call there s t holds q e n =
        skip_arm f kept labels end (tree.pick test others body end1) pieces i inside hidden fit.1 suits.2 (arms_follow pieces labels end) (arms_landed pieces labels end) (behind_out f hidden hidden (tree.pick test others body end1) (λ j x. x)) tt (is_named labels i) call there s t holds q e n
        (λ call2 there2 s2 n2. none_lands f kept labels inside.lands hidden call2 there2 pieces (i + 1) suits.2 s2 n2)
    arms_landed (tree.then_ tree.break_ pieces) labels end i inside hidden fit suits call there s t holds q e n =
        skip_arm f kept labels end tree.break_ pieces i inside hidden fit.1 suits.2 (arms_follow pieces labels end) (arms_landed pieces labels end) (behind_out f hidden hidden tree.break_ (λ j x. x)) tt (is_named labels i) call there s t holds q e n
        (λ call2 there2 s2 n2. none_lands f kept labels inside.lands hidden call2 there2 pieces (i + 1) suits.2 s2 n2)
    arms_landed (tree.then_ tree.next_ pieces) labels end i inside hidden fit suits call there s t holds q e n =
        skip_arm f kept labels end tree.next_ pieces i inside hidden fit.1 suits.2 (arms_follow pieces labels end) (arms_landed pieces labels end) (behind_out f hidden hidden tree.next_ (λ j x. x)) tt (is_named labels i) call there s t holds q e n
        (λ call2 there2 s2 n2. none_lands f kept labels inside.lands hidden call2 there2 pieces (i + 1) suits.2 s2 n2)
    arms_landed (tree.then_ (tree.leave call1) pieces) labels end i inside hidden fit suits call there s t holds q e n =
        skip_arm f kept labels end (tree.leave call1) pieces i inside hidden fit.1 suits.2 (arms_follow pieces labels end) (arms_landed pieces labels end) (behind_out f hidden hidden (tree.leave call1) (λ j x. x)) tt (is_named labels i) call there s t holds q e n
        (λ call2 there2 s2 n2. none_lands f kept labels inside.lands hidden call2 there2 pieces (i + 1) suits.2 s2 n2)
    arms_landed (tree.then_ (tree.mark point) pieces) labels end i inside hidden fit suits call there s t holds q e n =
        skip_arm f kept labels end (tree.mark point) pieces i inside hidden fit.1 suits.2 (arms_follow pieces labels end) (arms_landed pieces labels end) (behind_out f hidden hidden (tree.mark point) (λ j x. x)) tt (is_named labels i) call there s t holds q e n
        (λ call2 there2 s2 n2. none_lands f kept labels inside.lands hidden call2 there2 pieces (i + 1) suits.2 s2 n2)

    from_follows : (pieces : PieceTrees) (labels : List Label) (end : Point) (i j : ℕ) (inside : Inside) (hidden : ℕ → Bool) → ArmPiecesFit labels i inside pieces → ArmsSuit f kept labels i inside.lands hidden pieces → is_named labels (i + j) ≡ true
        → (s : Store) (w1 : Words) → Holds f hidden s w1 → (n : ℕ) → Follow kept (Ends f inside hidden) (from_piece f pieces j s n) (λ k. from_arm (shapes f) (arms (scope_of f) labels i pieces end) (arms_from labels i j) w1 k)
    from_follows tree.no_pieces labels end i j inside hidden fit suits named s w1 holds1 n = follows_goes kept (Ends f inside hidden) p.on s n (λ k. goes trees.on w1 k) (tt, (w1, holds1, λ k. refl))
    from_follows (tree.then_ piece pieces) labels end i zero inside hidden fit suits named s w1 holds1 n =
        from_zero f kept labels end piece pieces i inside hidden fit.1 suits.2 (arms_follow pieces labels end) (arms_landed pieces labels end) (behind_out f hidden hidden piece (λ k e. e)) suits.0 named s w1 holds1 n
    from_follows (tree.then_ piece pieces) labels end i (suc j) inside hidden fit suits named s w1 holds1 n =
        from_suc f kept labels end piece pieces i inside hidden fit.1 suits.2 (arms_follow pieces labels end) (arms_landed pieces labels end) (behind_out f hidden hidden piece (λ k e. e)) j
        (λ i1 j1 fit1 suits1 named1 s1 w2 holds2 n1. from_follows pieces labels end i1 j1 inside hidden fit1 suits1 named1 s1 w2 holds2 n1) named s w1 holds1 n

    -- ---- straight bodies with copies

    copied_pieces : (pieces : PieceTrees) → CopiedFollow f kept pieces
    copied_pieces tree.no_pieces inside outside hidden rest is_rest le e fit suits cur below t b r s h seen variables n =
        follows_goes kept (IsOn f rest (hidden_at_end outside hidden tree.no_pieces)) p.on s n (within (shapes f) (copied_from f variables (rest b)) t)
        (refl, record { seen = cur; below = below; words = t; block = b; ranged = r; opens = h; outs = seen; variables = variables; runs = λ k. refl })
    copied_pieces (tree.then_ piece pieces) inside outside hidden rest is_rest le e fit suits cur below t b r s h seen variables n =
        copied_list f kept piece pieces inside outside hidden rest (behind_below f outside hidden piece le)
        (copied_pieces pieces inside outside (hidden_behind outside hidden piece) rest is_rest (behind_out f outside hidden piece le) (and_right (is_straight piece) (are_straight pieces) e) fit.1 suits.1) s n
        (within (shapes f) (copied_from f variables (lowered_piece (scope_of f) piece (λ b1. lowered (scope_of f) pieces rest b1) b)) t)
        (copied_piece piece (with_ends (ends_in pieces inside.lands) inside) hidden (λ b1. lowered (scope_of f) pieces rest b1) (any_rest pieces rest is_rest) (and_left (is_straight piece) (are_straight pieces) e) fit.0 suits.0 cur below t b r s h seen variables n)

    copied_piece : (piece : PieceTree) (inside : Inside) (hidden : ℕ → Bool) (rest : Rest) → IsRest (shapes f) rest → is_straight piece ≡ true → PieceFits inside piece → PieceSuits f kept inside.lands hidden piece
        → (cur : ℕ → Bool) → Below f cur hidden → (t : Words) (b : BlockTree) (r : Ranged) (s : Store) → Opens f cur t b r s → AreSeen f cur b.outs → (variables : VarId → Bool) → (n : ℕ)
        → Follow kept (IsOn f rest (hidden_behind hidden hidden piece)) (piece_run f piece s n) (within (shapes f) (copied_from f variables (lowered_piece (scope_of f) piece rest b)) t)
    copied_piece (tree.set name value) inside hidden rest is_rest e fit suits cur below t b r s h seen variables n = copied_set f kept operators short rest is_rest hidden cur below t b r s h seen variables name value n suits.0 suits.1
    copied_piece (tree.put array subscripts value at) inside hidden rest is_rest e fit suits cur below t b r s h seen variables n = copied_put f kept operators short rest is_rest hidden cur below t b r s h seen variables array subscripts value at n suits.0 suits.1
    copied_piece (tree.fork test yes_ no_ end) inside hidden rest is_rest e fit suits cur below t b r s h seen variables n =
        copied_fork f kept operators short rest is_rest hidden cur below t b r s h seen variables (at_end f) inside test yes_ no_ end fit suits (branch_follows yes_ (begin_follows yes_)) (branch_follows no_ (begin_follows no_)) e n
    copied_piece (tree.repeat_ id post before test body step end) inside hidden rest is_rest e fit suits cur below t b r s h seen variables n = absurd (false≢true e)
    copied_piece (tree.pick test labels body end) inside hidden rest is_rest e fit suits cur below t b r s h seen variables n = absurd (false≢true e)
    copied_piece tree.break_ inside hidden rest is_rest e fit suits cur below t b r s h seen variables n = absurd (false≢true e)
    copied_piece tree.next_ inside hidden rest is_rest e fit suits cur below t b r s h seen variables n = absurd (false≢true e)
    copied_piece (tree.leave call) inside hidden rest is_rest e fit suits cur below t b r s h seen variables n = absurd (false≢true e)
    copied_piece (tree.land call end) inside hidden rest is_rest e fit suits cur below t b r s h seen variables n = copied_land f kept operators short rest is_rest hidden cur below t b r s h seen variables call end suits n
    copied_piece (tree.mark point) inside hidden rest is_rest e fit suits cur below t b r s h seen variables n = copied_mark f kept operators short rest is_rest hidden cur below t b r s h seen variables point suits n

    body_follows_copied : (body step : PieceTrees) → CopiedFollow f kept step → BodyFollows body step
    body_follows_copied tree.no_pieces step ih inside hidden end e1 e2 fit1 fit2 suits1 suits2 s w1 holds1 n = elim suits1 [ ]
    body_follows_copied (tree.then_ (tree.mark point) pieces) step ih inside hidden end e1 e2 fit1 fit2 suits1 suits2 s w1 holds1 n =
        let rest = λ (b1 : BlockTree). lowered (scope_of f) step last b1 in
        let is_rest = any_rest step last (last_rest (shapes f)) in
        let q = lowered (scope_of f) pieces rest (begun point) in
        let q1 = copied_from f (λ v. false) q in
        let known = IsOn f rest (hidden_at_end hidden hidden pieces) in
        copied_steps f kept operators hidden (tree.then_ (tree.mark point) pieces) step (hidden_at_end hidden hidden pieces) (hidden_at_end hidden hidden step) (at_end f pieces hidden) (at_end f step hidden)
        (ih (in_step inside) hidden hidden last (last_rest (shapes f)) (λ i z. z) e2 fit2 suits2) s n (λ k. sequence_run (shapes f) (copied (scope_of f) q) w1 k)
        (follows_same kept known (pieces_run f (tree.then_ (tree.mark point) pieces) s n) (λ k. sequence_run (shapes f) (copied (scope_of f) q) w1 k) (λ k. sequence_run (shapes f) q1 w1 k) (λ k. ap (λ x. sequence_run (shapes f) x w1 k) (copied_is f q))
        (follows_begun f kept known point suits1.0 pieces s n (λ k. sequence_run (shapes f) q1 w1 k) (within (shapes f) q1 w1)
        (subst (λ x. Passes x (λ k. sequence_run (shapes f) q1 w1 k) (within (shapes f) q1 w1)) ((any_rest pieces rest is_rest).point (begun point)) (sequence_passes (shapes f) q1 w1))
        (λ m. copied_pieces pieces (in_body inside) hidden hidden rest is_rest (λ i z. z) e1 fit1.1 suits1.1 hidden (λ i z. z) w1 (begun point) (start w1) s (begun_opens f hidden w1 s point holds1) tt (λ v. false) m)))
    body_follows_copied (tree.then_ (tree.set name value) pieces) step ih inside hidden end e1 e2 fit1 fit2 suits1 suits2 s w1 holds1 n = elim suits1 [ ]
    body_follows_copied (tree.then_ (tree.put array subscripts value at) pieces) step ih inside hidden end e1 e2 fit1 fit2 suits1 suits2 s w1 holds1 n = elim suits1 [ ]
    body_follows_copied (tree.then_ (tree.fork test yes_ no_ end1) pieces) step ih inside hidden end e1 e2 fit1 fit2 suits1 suits2 s w1 holds1 n = elim suits1 [ ]
    body_follows_copied (tree.then_ (tree.repeat_ id post before test body steps end1) pieces) step ih inside hidden end e1 e2 fit1 fit2 suits1 suits2 s w1 holds1 n = elim suits1 [ ]
    body_follows_copied (tree.then_ (tree.pick test labels body end1) pieces) step ih inside hidden end e1 e2 fit1 fit2 suits1 suits2 s w1 holds1 n = elim suits1 [ ]
    body_follows_copied (tree.then_ tree.break_ pieces) step ih inside hidden end e1 e2 fit1 fit2 suits1 suits2 s w1 holds1 n = elim suits1 [ ]
    body_follows_copied (tree.then_ tree.next_ pieces) step ih inside hidden end e1 e2 fit1 fit2 suits1 suits2 s w1 holds1 n = elim suits1 [ ]
    body_follows_copied (tree.then_ (tree.leave call1) pieces) step ih inside hidden end e1 e2 fit1 fit2 suits1 suits2 s w1 holds1 n = elim suits1 [ ]
    body_follows_copied (tree.then_ (tree.land other end1) pieces) step ih inside hidden end e1 e2 fit1 fit2 suits1 suits2 s w1 holds1 n = elim suits1 [ ]
