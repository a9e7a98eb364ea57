-- Straight pieces whose blocks have copies.
use Rattle.std.proofs.Common.{◌≡◌, ◌∙◌, ℕ, zero, suc, Bool, true, false, not, ◌&&◌, refl, ap, sym, subst, inl, inr, ℤ, List, length, Option, Some, None, if◌then◌else◌}
use Rattle.std.specs.Prelude.{nat_lt, slice_get, ◌==◌}
use Rattle.std.proofs.lemmas.Bool.{false≢true}
use Rattle.std.proofs.lemmas.Bool.Decides.{eqb_tells}
use Rattle.hls_base.specs.declared.place.Place.{Place}
use Rattle.hls_base.specs.declared.point.Point.{Point}
use Rattle.hls_base.specs.declared.refusal.UbRule.TheVariants as ub
use Rattle.hls_base.specs.declared.number.VarId.{VarId}
use Rattle.hls_base.specs.declared.number.ArrayId.{ArrayId}
use Rattle.c_value.specs.Values.{convert}
use Rattle.c_value.specs.Operators.{is_true}
use Rattle.hls_base.specs.Steps.{Outcome, went, undefined, waiting, Ran, ran, goes, then_}
use Rattle.hls_base.specs.Valued.{Valued, is, faulty, valued}
use Rattle.pieces.specs.declared.piece.CallId.{CallId}
use Rattle.pieces.specs.Trees as tree
use Rattle.pieces.specs.Trees.{PureTree, PureTrees, PieceTree, PieceTrees}
use Rattle.c_meaning.specs.PieceRuns.Values.{Store, with_variable, with_element, element_number, value, values}
use Rattle.c_meaning.specs.PieceRuns.Pieces as p
use Rattle.c_meaning.specs.PieceRuns.Pieces.{Frame, piece_run, pieces_run, landed, put_at, kind_at, type_of}
use Rattle.ir_core.specs.Bodies.{Words, Ranged, with_outs}
use Rattle.ir_core.specs.Trees.{branch, BlockTree, SequenceTree, sequence, no_part, more_parts, ShapeTree, fork, land}
use Rattle.ir_core.specs.TreeRuns as trees
use Rattle.ir_core.specs.TreeRuns.{parts_run, sequence_run, side_run, way_of}
use Rattle.passes.specs.Lowering.Shapes.{is_straight, are_straight}
use Rattle.passes.specs.Lowering.Blocks.{begun, is_live, set, put, with_ops, condition, forking, value_as, variable_type}
use Rattle.passes.specs.Lowering.Copies.{fixed_behind, fixed_behind_shape, copied_block, copied_parts, copied}
use Rattle.passes.specs.Lowering.{Rest, last, followed, land_of, lowered, lowered_piece}
use Rattle.pass_runs.specs.LowerRuns.OperatorWords.Words.{OperatorsAgree}
use Rattle.pass_runs.specs.LowerRuns.Suits.{Suits, EachSuits, scope_of}
use Rattle.pass_runs.specs.LowerRuns.Standing.{Stands}
use Rattle.pass_runs.specs.LowerRuns.Showing.{without_number}
use Rattle.pass_runs.proofs.LowerRuns.Growing.{word_grows}
use Rattle.pass_runs.proofs.LowerRuns.Whole.{puts_shown}
use Rattle.ir_layout.specs.WellFormed.{Inside}
use Rattle.pass_runs.specs.LowerRuns.LoweredTrees.Fitting.{PieceFits, PiecesFit}
use Rattle.pass_runs.specs.LowerRuns.Following.{Follows}
use Rattle.pass_runs.specs.LowerRuns.Holding.{Holds, ArraysAreShort, IsThere}
use Rattle.pass_runs.specs.LowerRuns.Suiting.{hidden_behind, hidden_at_end, PieceSuits, PiecesSuit}
use Rattle.pass_runs.proofs.LowerRuns.LowerControl.Following.{then_assoc, Follow, Passes, follows_goes, follows_fails, follows_same, follows_then, follows_both, follows_kept, follows_dropped}
use Rattle.pass_runs.proofs.LowerRuns.LowerControl.Rests.{first_of, rest_of, IsRest}
use Rattle.pass_runs.proofs.LowerRuns.LowerControl.Entering.{within, sequence_passes, start, Opens, begun_opens, closed_holds, Below, holds_weaker, opens_weaker}
use Rattle.pass_runs.proofs.LowerRuns.LowerControl.Targets.{Ends, shapes, Run, behind, behind_on, within_followed}
use Rattle.pass_runs.proofs.LowerRuns.LowerControl.Straight.{live_is, set_opens, test_opens}
use Rattle.pass_runs.proofs.LowerRuns.LowerControl.Forks.{side_of, BranchFollows, follows_if, prepared}
use Rattle.pass_runs.proofs.LowerRuns.LowerControl.Copying.{AreSeen, ExitKeeps, copied_within, worded, seen_set}

-- ---- straight pieces go on

abbrev pub GoesOn : {S : Type 0} → Outcome S p.Way → Type 0
GoesOn (went w s n) = w ≡ p.on
GoesOn (undefined rule at) = Unit {0}
GoesOn waiting = Unit {0}

-- behind a part that goes on
then_on : {S : Type 0} (trace : List Point) (o : Outcome S p.Way) (next : p.Way → S → ℕ → Ran S p.Way) → GoesOn o → ((s : S) (n : ℕ) → GoesOn (next p.on s n).outcome) → GoesOn (then_ (ran trace o) next).outcome
then_on trace (went w s n) next e h = subst (λ x. GoesOn (next x s n).outcome) (sym e) (h s n)
then_on trace (undefined rule at) next e h = tt
then_on trace waiting next e h = tt

valued_on : {S A : Type 0} (v : Valued A) (next : A → S → ℕ → Ran S p.Way) (s : S) (n : ℕ) → ((x : A) → GoesOn (next x s n).outcome) → GoesOn (valued v next s n).outcome
valued_on (is x) next s n h = h x
valued_on (faulty rule at) next s n h = tt

if_on : {S : Type 0} (c : Bool) (r q : Ran S p.Way) → GoesOn r.outcome → GoesOn q.outcome → GoesOn (if c then r else q).outcome
if_on true r q h g = h
if_on false r q h g = g

behind_goes : (end : Point) (s : Store) (n : ℕ) → GoesOn (p.behind end s n).outcome
behind_goes end s zero = tt
behind_goes end s (suc n) = refl

put_on : (f : Frame) (array : ℕ) (o : Option ℕ) (x : ℤ) (at : Place) (s : Store) (n : ℕ) → GoesOn (put_at f array o x at s n).outcome
put_on f array None x at s n = tt
put_on f array (Some i) x at s n = refl

and_first : (a b : Bool) → (a && b) ≡ true → a ≡ true
and_first true b e = refl
and_first false b e = e

and_second : (a b : Bool) → (a && b) ≡ true → b ≡ true
and_second true b e = e
and_second false b e = absurd (false≢true e)

module _ (f : Frame) where
  mutual
    piece_on : (piece : PieceTree) → is_straight piece ≡ true → (s : Store) (n : ℕ) → GoesOn (piece_run f piece s n).outcome
    piece_on (tree.set name x) e s n = valued_on (value f.arrays x s) (p.set f name.0) s n (λ y. refl)
    piece_on (tree.put array subscripts x at) e s n =
        valued_on (values f.arrays subscripts s) (λ is_ t1. valued (value f.arrays x t1) (λ y t2. put_at f array.0 (element_number f.arrays array.0 is_) y at t2) t1) s n
        (λ is_. valued_on (value f.arrays x s) (λ y t2. put_at f array.0 (element_number f.arrays array.0 is_) y at t2) s n (λ y. put_on f array.0 (element_number f.arrays array.0 is_) y at s n))
    piece_on (tree.fork test yes_ no_ end) e s n =
        let both = and_second _ (are_straight yes_ && are_straight no_) e in
        valued_on (value f.arrays test s) (λ x t1 n1. then_ (if is_true x then pieces_run f yes_ t1 n1 else pieces_run f no_ t1 n1) (λ w t2 n2. p.behind_fork w end t2 n2)) s n
        (λ x.
        (let r = if is_true x then pieces_run f yes_ s n else pieces_run f no_ s n in
        then_on r.trace r.outcome (λ w t2 n2. p.behind_fork w end t2 n2)
        (if_on (is_true x) (pieces_run f yes_ s n) (pieces_run f no_ s n) (pieces_on yes_ (and_first (are_straight yes_) (are_straight no_) both) s n) (pieces_on no_ (and_second (are_straight yes_) (are_straight no_) both) s n))
        (λ s1 m. behind_goes end s1 m)))
    piece_on (tree.repeat_ id post before test body step end) e s n = absurd (false≢true e)
    piece_on (tree.pick test labels body end) e s n = absurd (false≢true e)
    piece_on tree.break_ e s n = absurd (false≢true e)
    piece_on tree.next_ e s n = absurd (false≢true e)
    piece_on (tree.leave call) e s n = absurd (false≢true e)
    piece_on (tree.land call end) e s n = behind_goes end s n
    piece_on (tree.mark point) e s n = behind_goes point s n

    pub pieces_on : (pieces : PieceTrees) → are_straight pieces ≡ true → (s : Store) (n : ℕ) → GoesOn (pieces_run f pieces s n).outcome
    pieces_on tree.no_pieces e s n = refl
    pieces_on (tree.then_ piece rest) e s n =
        then_on (piece_run f piece s n).trace (piece_run f piece s n).outcome (λ w t1 n1. p.behind_piece (λ t2 n2. pieces_run f rest t2 n2) (λ call t2 n2. landed f rest call t2 n2) w t1 n1)
        (piece_on piece (and_first (is_straight piece) (are_straight rest) e) s n) (λ s1 m. pieces_on rest (and_second (is_straight piece) (are_straight rest) e) s1 m)

-- what follows such a part is known where it goes on
pub follows_on : {S T B : Type 0} (kept : Point → Bool) (known : p.Way → S → (ℕ → Ran T B) → Type 0) (trace : List Point) (o : Outcome S p.Way) (g : ℕ → Ran T B) → Follows kept known trace o g → GoesOn o → Follows kept (λ w s q. (w ≡ p.on) × known w s q) trace o g
follows_on kept known trace (went w s n) g h e = (h.0, h.1, (e, h.2))
follows_on kept known trace (undefined rule at) g h e = (h.0, h.1, tt)
follows_on kept known trace waiting g h e = (h.0, h.1, tt)

not_on : p.broke ≡ p.on → ⊥
not_on e = cc

not_on1 : p.continued ≡ p.on → ⊥
not_on1 e = cc

not_on2 : (call : CallId) → p.left call ≡ p.on → ⊥
not_on2 call e = cc

-- ---- expressions that suit where more is hidden

mutual
  pub suits_less : (f : Frame) (hidden more : ℕ → Bool) → Below f hidden more → (x : PureTree) → Suits f more x → Suits f hidden x
  suits_less f hidden more le (tree.number w k) h = h
  suits_less f hidden more le (tree.variable v k) h = (h.0, h.1, le v.0 h.2)
  suits_less f hidden more le (tree.element array subscripts k at) h = (h.0, h.1, each_less f hidden more le subscripts h.2)
  suits_less f hidden more le (tree.unary op arg k at) h = (h.0, h.1, suits_less f hidden more le arg h.2)
  suits_less f hidden more le (tree.binary op left right k at) h = (h.0, h.1, suits_less f hidden more le left h.2, suits_less f hidden more le right h.3)
  suits_less f hidden more le (tree.choice test left right k) h = (h.0, suits_less f hidden more le test h.1, suits_less f hidden more le left h.2, suits_less f hidden more le right h.3)
  suits_less f hidden more le (tree.cast to arg) h = (h.0, suits_less f hidden more le arg h.1)

  pub each_less : (f : Frame) (hidden more : ℕ → Bool) → Below f hidden more → (xs : PureTrees) → EachSuits f more xs → EachSuits f hidden xs
  each_less f hidden more le tree.none h = tt
  each_less f hidden more le (tree.more first rest) h = (suits_less f hidden more le first h.0, each_less f hidden more le rest h.1)

-- ---- trees with copies

module _ (f : Frame) where
  -- with these variables fixed as the first block is entered
  abbrev pub copied_from : (VarId → Bool) → SequenceTree → SequenceTree
  copied_from variables q = sequence (copied_block (scope_of f) (rest_of q) variables (first_of q)) (copied_parts (scope_of f) (fixed_behind (rest_of q) variables (first_of q)) (rest_of q))

  pub copied_is : (q : SequenceTree) → copied (scope_of f) q ≡ copied_from (λ v. false) q
  copied_is (sequence first rest) = refl

  abbrev pub later_fixed : (VarId → Bool) → BlockTree → ShapeTree → SequenceTree → VarId → Bool
  later_fixed variables b shape q = fixed_behind_shape shape (fixed_behind (more_parts shape (first_of q) (rest_of q)) variables b)

  pub copied_followed : (variables : VarId → Bool) (b : BlockTree) (shape : ShapeTree) (q : SequenceTree)
      → copied_from variables (followed b shape q) ≡ followed (copied_block (scope_of f) (more_parts shape (first_of q) (rest_of q)) variables b) shape (copied_from (later_fixed variables b shape q) q)
  copied_followed variables b shape (sequence first rest) = refl

  -- In a block that is open, of which the copies are to come.
  pub record At (rest : Rest) (hidden : ℕ → Bool) (s : Store) (q : Run) : Type 0 where
    pub seen : ℕ → Bool
    pub below : Below f seen hidden
    pub words : Words
    pub block : BlockTree
    pub ranged : Ranged
    pub opens : Opens f seen words block ranged s
    pub outs : AreSeen f seen block.outs
    pub variables : VarId → Bool
    pub runs : (k : ℕ) → q k ≡ within (shapes f) (copied_from variables (rest block)) words k

  abbrev pub IsOn : Rest → (ℕ → Bool) → p.Way → Store → Run → Type 0
  IsOn rest hidden w s q = (w ≡ p.on) × At rest hidden s q

  module _ (kept : Point → Bool) (operators : OperatorsAgree) (short : ArraysAreShort f) (rest : Rest) (is_rest : IsRest (shapes f) rest) (hidden : ℕ → Bool) where
    -- a block begins at this point
    ends_at : (end : Point) → kept end ≡ true → (s : Store) (w : Words) → Holds f hidden s w → (variables : VarId → Bool) (n : ℕ) (g : Run) → ((k : ℕ) → g k ≡ sequence_run (shapes f) (copied_from variables (rest (begun end))) w k)
        → Follow kept (IsOn rest hidden) (p.behind end s n) g
    ends_at end keeps s w holds variables n g e =
        let q = copied_from variables (rest (begun end)) in
        follows_same kept (IsOn rest hidden) (p.behind end s n) g (λ k. sequence_run (shapes f) q w k) e
        (follows_kept kept (IsOn rest hidden) end (λ s1 n1. goes p.on s1 n1) s n (λ k. sequence_run (shapes f) q w k) (within (shapes f) q w) keeps
        (subst (λ x. Passes x (λ k. sequence_run (shapes f) q w k) (within (shapes f) q w)) (is_rest.point (begun end)) (sequence_passes (shapes f) q w))
        (λ m. follows_goes kept (IsOn rest hidden) p.on s m (within (shapes f) q w)
        (refl, record { seen = hidden; below = λ i z. z; words = w; block = begun end; ranged = start w; opens = begun_opens f hidden w s end holds; outs = tt; variables = variables; runs = λ k. refl })))

    module _ (cur : ℕ → Bool) (le : Below f cur hidden) (t : Words) (b : BlockTree) (r : Ranged) (s : Store) (h : Opens f cur t b r s) (seen : AreSeen f cur b.outs) (variables : VarId → Bool) where
      pub copied_set : (name : VarId) (x : PureTree) (n : ℕ) → IsThere f name → Suits f hidden x
          → Follow kept (IsOn rest (without_number hidden name.0)) (piece_run f (tree.set name x) s n) (within (shapes f) (copied_from variables (lowered_piece (scope_of f) (tree.set name x) rest b)) t)
      copied_set name x n there suits = by (value f.arrays x s) refl where
        g : Run
        g = within (shapes f) (copied_from variables (lowered_piece (scope_of f) (tree.set name x) rest b)) t

        less : (i : ℕ) → without_number hidden name.0 i ≡ false → without_number cur name.0 i ≡ false
        less i e = elim (eqb_tells name.0 i) [
          | inl c ↦ ap (λ (d : Bool). if d then false else cur i) c.0
          | inr c ↦ ap (λ (d : Bool). if d then false else cur i) c.0 ∙ le i (sym (ap (λ (d : Bool). if d then false else hidden i) c.0) ∙ e)
        ]

        by : (v : Valued ℤ) → value f.arrays x s ≡ v → Follow kept (IsOn rest (without_number hidden name.0)) (valued v (p.set f name.0) s n) g
        by (faulty rule at) e = follows_fails kept (IsOn rest (without_number hidden name.0)) rule at g
        by (is m) e =
            let y = set_opens f operators short cur t b r s h name x m there (suits_less f cur hidden le x suits) e in
            let b1 = set (scope_of f) name x b in
            follows_goes kept (IsOn rest (without_number hidden name.0)) p.on (with_variable name.0 (convert (type_of (slice_get f.variables name.0)) m) s) n g (
              refl,
              record {
                seen = without_number cur name.0;
                below = less;
                words = t;
                block = b1;
                ranged = y.0;
                opens = y.1;
                outs = seen_set f cur b.outs name (value_as b x (variable_type (scope_of f) name)).operand (nat_lt name.0 (length f.variables)) there seen;
                variables = variables;
                runs = λ k. ap (λ c. within (shapes f) (copied_from variables (rest (if c then b1 else b))) t k) (live_is f operators short cur t b r s h);
              },
            )

      pub copied_put : (array : ArrayId) (subscripts : PureTrees) (x : PureTree) (at : Place) (n : ℕ) → EachSuits f hidden subscripts → Suits f hidden x
          → Follow kept (IsOn rest hidden) (piece_run f (tree.put array subscripts x at) s n) (within (shapes f) (copied_from variables (lowered_piece (scope_of f) (tree.put array subscripts x at) rest b)) t)
      copied_put array subscripts x at n suits_each suits = by_all (values f.arrays subscripts s) refl where
        g : Run
        g = within (shapes f) (copied_from variables (lowered_piece (scope_of f) (tree.put array subscripts x at) rest b)) t

        there : (is_ : List ℤ) (m : ℤ) → values f.arrays subscripts s ≡ is is_ → value f.arrays x s ≡ is m → (i : Option ℕ) → element_number f.arrays array.0 is_ ≡ i → Follow kept (IsOn rest hidden) (put_at f array.0 i m at s n) g
        there is_ m e1 e2 None e = follows_fails kept (IsOn rest hidden) ub.Index at g
        there is_ m e1 e2 (Some i) e =
            let y = puts_shown f cur t b r s h.at array subscripts x at is_ i m (short array.0) (each_less f cur hidden le subscripts suits_each) (suits_less f cur hidden le x suits) e1 e2 e in
            let s1 = with_element array.0 i (convert (kind_at f.arrays array.0) m) s in
            let b1 = put (scope_of f) array subscripts x at b in
            let opens : Opens f cur t b1 y.0 s1 = record { at = y.1; single = h.single; live = h.live } in
            follows_goes kept (IsOn rest hidden) p.on s1 n g (
              refl,
              record {
                seen = cur;
                below = le;
                words = t;
                block = b1;
                ranged = y.0;
                opens = opens;
                outs = seen;
                variables = variables;
                runs = λ k. ap (λ c. within (shapes f) (copied_from variables (rest (if c then b1 else b))) t k) (live_is f operators short cur t b r s h);
              },
            )

        by : (is_ : List ℤ) → values f.arrays subscripts s ≡ is is_ → (v : Valued ℤ) → value f.arrays x s ≡ v
            → Follow kept (IsOn rest hidden) (valued v (λ y t2. put_at f array.0 (element_number f.arrays array.0 is_) y at t2) s n) g
        by is_ e1 (faulty rule place) e = follows_fails kept (IsOn rest hidden) rule place g
        by is_ e1 (is m) e = there is_ m e1 e (element_number f.arrays array.0 is_) refl

        by_all : (v : Valued (List ℤ)) → values f.arrays subscripts s ≡ v
            → Follow kept (IsOn rest hidden) (valued v (λ is_ t1. valued (value f.arrays x t1) (λ y t2. put_at f array.0 (element_number f.arrays array.0 is_) y at t2) t1) s n) g
        by_all (faulty rule place) e = follows_fails kept (IsOn rest hidden) rule place g
        by_all (is is_) e = by is_ e (value f.arrays x s) refl

      pub copied_mark : (point : Point) → kept point ≡ false → (n : ℕ) → Follow kept (IsOn rest hidden) (p.behind point s n) (within (shapes f) (copied_from variables (rest b)) t)
      copied_mark point e n =
          let g = within (shapes f) (copied_from variables (rest b)) t in
          follows_dropped kept (IsOn rest hidden) point (λ s1 n1. goes p.on s1 n1) s n g e
          (λ m. follows_goes kept (IsOn rest hidden) p.on s m g (refl, record { seen = cur; below = le; words = t; block = b; ranged = r; opens = h; outs = seen; variables = variables; runs = λ k. refl }))

      pub copied_land : (call : CallId) (end : Point) → kept end ≡ true → (n : ℕ) → Follow kept (IsOn rest hidden) (p.behind end s n) (within (shapes f) (copied_from variables (followed b (land (land_of call)) (rest (begun end)))) t)
      copied_land call end keeps n =
          let q = rest (begun end) in
          let shape = land (land_of call) in
          let after = later_fixed variables b shape q in
          let q1 = copied_from after q in
          let b1 = copied_block (scope_of f) (more_parts shape (first_of q) (rest_of q)) variables b in
          let w = with_outs b.outs r in
          let exit : ExitKeeps f b.ops r b.exit = subst (λ e. ExitKeeps f b.ops r e) (sym h.live) (λ ops' r' g. refl) in
          ends_at end keeps s w (holds_weaker f cur hidden s w le (closed_holds f cur t b r s h.at h.single)) after n (within (shapes f) (copied_from variables (followed b shape q)) t)
          (λ k.
          (ap (λ x. within (shapes f) x t k) (copied_followed variables b shape q)
          ∙ within_followed f b1 shape q1 t k
          ∙ copied_within f t b r (more_parts shape (first_of q) (rest_of q)) variables (more_parts shape (first_of q1) (rest_of q1)) h.at.stands (worded f operators cur t b r s h.at h.single seen) exit k
          ∙ ap (λ e. parts_run (shapes f) (more_parts shape (first_of q1) (rest_of q1)) (way_of e r.words r.results) w k) h.live
          ∙ behind_on f q1 w k))

      module _ (at_end : (pieces : PieceTrees) (hidden1 : ℕ → Bool) → Below f (hidden_at_end hidden1 hidden1 pieces) hidden1) (inside : Inside) (test : PureTree) (yes_ no_ : PieceTrees) (end : Point) (fit : PieceFits inside (tree.fork test yes_ no_ end))
          (suits : PieceSuits f kept inside.lands hidden (tree.fork test yes_ no_ end)) (ih1 : BranchFollows f kept yes_) (ih2 : BranchFollows f kept no_) (straight : is_straight (tree.fork test yes_ no_ end) ≡ true) where
        abbrev fork_run : Run
        fork_run = within (shapes f) (copied_from variables (lowered_piece (scope_of f) (tree.fork test yes_ no_ end) rest b)) t

        abbrev flag : Bool
        flag = is_live b && is_straight (tree.fork test yes_ no_ end)

        abbrev shape : ShapeTree
        shape = fork (side_of f kept yes_) (side_of f kept no_) flag

        abbrev q : SequenceTree
        q = rest (begun end)

        behind_sides : (after : VarId → Bool) (way : p.Way) (s1 : Store) (n1 : ℕ) (q2 : Run) → way ≡ p.on → Ends f inside hidden way s1 q2 → Follow kept (IsOn rest hidden) (p.behind_fork way end s1 n1) (λ k. then_ (q2 k) (behind f (copied_from after q)))
        behind_sides after p.on s1 n1 q2 e a =
            let q1 = copied_from after q in
            ends_at end suits.1 s1 a.1.0 a.1.1 after n1 (λ k. then_ (q2 k) (behind f q1)) (λ k. ap (λ x. then_ x (behind f q1)) (a.1.2 k) ∙ behind_on f q1 a.1.0 k)
        behind_sides after p.broke s1 n1 q2 e a = absurd (not_on e)
        behind_sides after p.continued s1 n1 q2 e a = absurd (not_on1 e)
        behind_sides after (p.left call) s1 n1 q2 e a = absurd (not_on2 call e)

        chosen : (x : ℤ) → value f.arrays test s ≡ is x → (n : ℕ) → Follow kept (IsOn rest hidden) (then_ (if is_true x then pieces_run f yes_ s n else pieces_run f no_ s n) (λ w t2 n2. p.behind_fork w end t2 n2)) fork_run
        chosen x e n =
            let y = test_opens f operators short cur t b r s h test x (suits_less f cur hidden le test suits.0) e in
            let b0 = with_ops (condition test b).ops b in
            let open0 = opens_weaker f cur hidden t b0 y.next s le y.opens in
            let ready = prepared f kept operators short hidden t b0 y.next s open0 (λ pieces. at_end pieces hidden) inside yes_ no_ ih1 ih2 at_end fit.0 fit.1 _ _ refl refl suits.2 in
            let head = record ready.block { exit = branch (condition test b).operand } in
            let after = later_fixed variables head shape q in
            let q1 = copied_from after q in
            let later = more_parts shape (first_of q) (rest_of q) in
            let head1 = copied_block (scope_of f) later variables head in
            let w = with_outs ready.block.outs y.next in
            let c = is_true x in
            let stands : Stands (shapes f) t ready.block.ops y.next = subst (λ l. Stands (shapes f) t l y.next) (sym ready.same) y.opens.at.stands in
            let words_are = ready.worded (worded f operators cur t b0 y.next s y.opens.at y.opens.single seen) in
            let exit : ExitKeeps f head.ops y.next head.exit =
            λ ops' r' grows. ap (λ z. trees.taken (not (z == 0))) (word_grows (shapes f) head.ops ops' y.next r' grows (condition test b).operand.value y.early) in
            let chosen_run : Ran Store p.Way = if c then pieces_run f yes_ s n else pieces_run f no_ s n in
            let sides : Run = λ k. if c then side_run (shapes f) (side_of f kept yes_) w k else side_run (shapes f) (side_of f kept no_) w k in
            let both = and_second _ (are_straight yes_ && are_straight no_) straight in
            let goes_on = if_on c (pieces_run f yes_ s n) (pieces_run f no_ s n) (pieces_on f yes_ (and_first (are_straight yes_) (are_straight no_) both) s n) (pieces_on f no_ (and_second (are_straight yes_) (are_straight no_) both) s n) in
            follows_same kept (IsOn rest hidden) (then_ chosen_run (λ w1 t2 n2. p.behind_fork w1 end t2 n2)) fork_run (λ k. then_ (sides k) (behind f q1))
            (λ k.
            (ap (λ i. within (shapes f) (copied_from variables (followed (if i then forking (scope_of f) yes_ no_ b (condition test b) else b) shape q)) t k) (live_is f operators short cur t b r s h)
            ∙ ap (λ (z : BlockTree). within (shapes f) (copied_from variables (followed (record z { exit = branch (condition test b).operand }) shape q)) t k) ready.is_
            ∙ ap (λ z. within (shapes f) z t k) (copied_followed variables head shape q)
            ∙ within_followed f head1 shape q1 t k
            ∙ copied_within f t head y.next later variables (more_parts shape (first_of q1) (rest_of q1)) stands words_are exit k
            ∙ ap (λ i. parts_run (shapes f) (more_parts shape (first_of q1) (rest_of q1)) (trees.taken i) w k) y.holds))
            (follows_both kept (λ w1 s1 q2. (w1 ≡ p.on) × Ends f inside hidden w1 s1 q2) (IsOn rest hidden) chosen_run.trace chosen_run.outcome (λ w1 t2 n2. p.behind_fork w1 end t2 n2) sides (behind f q1)
            (follows_on kept (Ends f inside hidden) chosen_run.trace chosen_run.outcome sides
            (follows_if f kept (Ends f inside hidden) c (pieces_run f yes_ s n) (pieces_run f no_ s n) (λ k. side_run (shapes f) (side_of f kept yes_) w k) (λ k. side_run (shapes f) (side_of f kept no_) w k) (ready.yes_follows n) (ready.no_follows n)) goes_on)
            (λ way s1 n1 q2 a. behind_sides after way s1 n1 q2 a.0 a.1))

        pub copied_fork : (n : ℕ) → Follow kept (IsOn rest hidden) (piece_run f (tree.fork test yes_ no_ end) s n) fork_run
        copied_fork n = by (value f.arrays test s) refl where
          by : (v : Valued ℤ) → value f.arrays test s ≡ v → Follow kept (IsOn rest hidden) (valued v (λ x t1 n1. then_ (if is_true x then pieces_run f yes_ t1 n1 else pieces_run f no_ t1 n1) (λ w t2 n2. p.behind_fork w end t2 n2)) s n) fork_run
          by (faulty rule at) e = follows_fails kept (IsOn rest hidden) rule at fork_run
          by (is x) e = chosen x e n

  -- ---- pieces one after another

  -- straight pieces, one after another, in blocks of which the copies are to come
  abbrev pub CopiedFollow : (Point → Bool) → PieceTrees → Type 0
  CopiedFollow kept pieces = (inside : Inside) (outside hidden : ℕ → Bool) (rest : Rest) → IsRest (shapes f) rest → Below f hidden outside → are_straight pieces ≡ true → PiecesFit inside pieces → PiecesSuit f kept inside.lands outside hidden pieces
      → (cur : ℕ → Bool) → Below f cur hidden → (t : Words) (b : BlockTree) (r : Ranged) (s : Store) → Opens f cur t b r s → AreSeen f cur b.outs → (variables : VarId → Bool) → (n : ℕ)
      → Follow kept (IsOn rest (hidden_at_end outside hidden pieces)) (pieces_run f pieces s n) (within (shapes f) (copied_from variables (lowered (scope_of f) pieces rest b)) t)

  pub copied_list : (kept : Point → Bool) (piece : PieceTree) (pieces : PieceTrees) (inside : Inside) (outside hidden : ℕ → Bool) (rest : Rest) → Below f (hidden_behind hidden hidden piece) (hidden_behind outside hidden piece)
      → ((cur : ℕ → Bool) → Below f cur (hidden_behind outside hidden piece) → (t : Words) (b : BlockTree) (r : Ranged) (s : Store) → Opens f cur t b r s → AreSeen f cur b.outs → (variables : VarId → Bool) → (n : ℕ)
      → Follow kept (IsOn rest (hidden_at_end outside (hidden_behind outside hidden piece) pieces)) (pieces_run f pieces s n) (within (shapes f) (copied_from variables (lowered (scope_of f) pieces rest b)) t))
      → (s : Store) (n : ℕ) (g : Run) → Follow kept (IsOn (λ b. lowered (scope_of f) pieces rest b) (hidden_behind hidden hidden piece)) (piece_run f piece s n) g
      → Follow kept (IsOn rest (hidden_at_end outside (hidden_behind outside hidden piece) pieces)) (pieces_run f (tree.then_ piece pieces) s n) g
  copied_list kept piece pieces inside outside hidden rest le ih s n g h =
      follows_then kept (IsOn (λ b. lowered (scope_of f) pieces rest b) (hidden_behind hidden hidden piece)) (IsOn rest (hidden_at_end outside (hidden_behind outside hidden piece) pieces)) (piece_run f piece s n).trace (piece_run f piece s n).outcome
      (λ w t1 n1. p.behind_piece (λ t2 n2. pieces_run f pieces t2 n2) (λ call t2 n2. landed f pieces call t2 n2) w t1 n1) g h
      (λ way s1 n1 q1 a.
      subst (λ w. Follow kept (IsOn rest (hidden_at_end outside (hidden_behind outside hidden piece) pieces)) (p.behind_piece (λ t2 n2. pieces_run f pieces t2 n2) (λ call t2 n2. landed f pieces call t2 n2) w s1 n1) q1) (sym a.0)
      (follows_same kept (IsOn rest (hidden_at_end outside (hidden_behind outside hidden piece) pieces)) (pieces_run f pieces s1 n1) q1 (within (shapes f) (copied_from a.1.variables (lowered (scope_of f) pieces rest a.1.block)) a.1.words) a.1.runs
      (ih a.1.seen (λ i z. a.1.below i (le i z)) a.1.words a.1.block a.1.ranged s1 a.1.opens a.1.outs a.1.variables n1)))

  -- ---- a body and its step

  -- the blocks are at their end
  abbrev pub IsDone : (ℕ → Bool) → p.Turn → Store → Run → Type 0
  IsDone hidden u s q = (u ≡ p.again) × ((w : Words) × Holds f hidden s w × ((k : ℕ) → q k ≡ goes trees.on w k))

  module _ (kept : Point → Bool) (operators : OperatorsAgree) (hidden : ℕ → Bool) where
    last_at : (hidden1 : ℕ → Bool) → Below f hidden1 hidden → (s : Store) (q1 : Run) → At last hidden1 s q1 → (w : Words) × Holds f hidden s w × ((k : ℕ) → q1 k ≡ goes trees.on w k)
    last_at hidden1 le s q1 a =
        let b = a.block in
        let exit : ExitKeeps f b.ops a.ranged b.exit = subst (λ e. ExitKeeps f b.ops a.ranged e) (sym a.opens.live) (λ ops' r' g. refl) in
        let w = with_outs b.outs a.ranged in (
          w,
          holds_weaker f a.seen hidden s w (λ i z. a.below i (le i z)) (closed_holds f a.seen a.words b a.ranged s a.opens.at a.opens.single),
          λ k.
              (a.runs k
              ∙ copied_within f a.words b a.ranged no_part a.variables no_part a.opens.at.stands (worded f operators a.seen a.words b a.ranged s a.opens.at a.opens.single a.outs) exit k
              ∙ ap (λ e. parts_run (shapes f) no_part (way_of e a.ranged.words a.ranged.results) w k) a.opens.live),
        )

    -- behind the body comes the step
    pub copied_steps : (body step : PieceTrees) (hidden1 hidden2 : ℕ → Bool) → Below f hidden1 hidden → Below f hidden2 hidden
        → ((cur : ℕ → Bool) → Below f cur hidden → (t : Words) (b : BlockTree) (r : Ranged) (s : Store) → Opens f cur t b r s → AreSeen f cur b.outs → (variables : VarId → Bool) → (n : ℕ)
        → Follow kept (IsOn last hidden2) (pieces_run f step s n) (within (shapes f) (copied_from variables (lowered (scope_of f) step last b)) t))
        → (s : Store) (n : ℕ) (g : Run) → Follow kept (IsOn (λ b. lowered (scope_of f) step last b) hidden1) (pieces_run f body s n) g
        → Follow kept (IsDone hidden) (then_ (p.turned (pieces_run f body) s n) (λ u s1 n1. p.if_again u (λ s2 n2. p.turned (pieces_run f step) s2 n2) s1 n1)) g
    copied_steps body step hidden1 hidden2 le1 le2 ih s n g h =
        let known = IsOn (λ b. lowered (scope_of f) step last b) hidden1 in
        let turns = λ (u : p.Turn) (s1 : Store) (n1 : ℕ). p.if_again u (λ s2 n2. p.turned (pieces_run f step) s2 n2) s1 n1 in
        subst (λ x. Follow kept (IsDone hidden) x g) (sym (then_assoc (pieces_run f body s n) (λ w t1 n1. goes (p.turn_of w) t1 n1) turns))
        (follows_then kept known (IsDone hidden) (pieces_run f body s n).trace (pieces_run f body s n).outcome (λ w t1 n1. then_ (goes (p.turn_of w) t1 n1) turns) g h
        (λ way s1 n1 q1 a.
        subst (λ w. Follow kept (IsDone hidden) (then_ (goes (p.turn_of w) s1 n1) turns) q1) (sym a.0)
        (follows_then kept (IsOn last hidden2) (IsDone hidden) (pieces_run f step s1 n1).trace (pieces_run f step s1 n1).outcome (λ w t1 n2. goes (p.turn_of w) t1 n2) q1
        (follows_same kept (IsOn last hidden2) (pieces_run f step s1 n1) q1 (within (shapes f) (copied_from a.1.variables (lowered (scope_of f) step last a.1.block)) a.1.words) a.1.runs
        (ih a.1.seen (λ i z. a.1.below i (le1 i z)) a.1.words a.1.block a.1.ranged s1 a.1.opens a.1.outs a.1.variables n1))
        (λ way2 s2 n2 q2 c. follows_goes kept (IsDone hidden) (p.turn_of way2) s2 n2 q2 (ap p.turn_of c.0, last_at hidden2 le2 s2 q2 c.1)))))
