-- A switch and the jump to its label.
use Rattle.std.proofs.Common.{◌≡◌, ℕ, ◌+◌, ◌≤◌, ◌∙◌, sym, refl, ap, ap₂, subst, inl, inr, ℤ, Bool, true, false, true≢false, List, [], ◌∷◌, ◌++◌, length, Option, Some, None, le_refl, arith, if◌then◌else◌}
use Rattle.std.specs.Prelude.{drop}
use Rattle.std.proofs.lemmas.Bool.{cases_Bool, false≢true}
use Rattle.hls_base.specs.declared.place.Place.{Place}
use Rattle.hls_base.specs.declared.point.Point.{Point}
use Rattle.hls_base.specs.declared.point.PointKind.TheVariants as point
use Rattle.hls_base.specs.declared.number.ArrayId.{ArrayId}
use Rattle.c_meaning.specs.declared.value.Completion.{Completion}
use Rattle.c_meaning.specs.declared.value.Completion.TheVariants as end
use Rattle.pieces.specs.Resolved.Core as core
use Rattle.pieces.specs.Resolved.Core.{CoreTree, CoreStmtTree, CoreStmtTrees}
use Rattle.piece_making.specs.declared.frame.Home.{Home}
use Rattle.piece_making.specs.Making.{State, then_, emit, inside, inside_switch}
use Rattle.piece_making.specs.Calls.{Call}
use Rattle.piece_making.specs.Leaving.{leaves, any_leaves}
use Rattle.pieces.specs.declared.piece.Label.{Label}
use Rattle.pieces.specs.Trees as tree
use Rattle.pieces.specs.Trees.{PureTree, PieceTree, piece_row}
use Rattle.pieces.specs.Kind.{kind}
use Rattle.hls_base.specs.Steps as Steps
use Rattle.hls_base.specs.Steps.{Ran, goes}
use Rattle.hls_base.specs.Same.{Same}
use Rattle.hls_base.specs.Valued.{is, valued}
use Rattle.c_meaning.specs.CoreRuns.Kinds.{kind_of}
use Rattle.c_meaning.specs.CoreRuns.Cells.{Spot, Cells, Here, entered}
use Rattle.c_meaning.specs.CoreRuns.Expressions as ce
use Rattle.c_meaning.specs.CoreRuns.Expressions.{CoreCalls, point_at}
use Rattle.c_meaning.specs.CoreRuns.Statements as ks
use Rattle.c_meaning.specs.CoreRuns.Statements.{is_label, is_default, has_label, any_label}
use Rattle.c_meaning.specs.PieceRuns.Values.{Store, value}
use Rattle.c_meaning.specs.PieceRuns.Pieces.{Frame, Way, on, from_piece}
use Rattle.c_meaning.specs.PieceRuns.Pieces as pm
use Rattle.c_expand.specs.Expressions.{Callee, expression}
use Rattle.c_expand.specs.Statements.{switched, statement, statements}
use Rattle.expand_runs.specs.Counting.{CalleesCount}
use Rattle.expand_runs.specs.Reading.{UnaryFits, BinaryFits}
use Rattle.expand_runs.specs.Calling.{CallsSame}
use Rattle.expand_runs.specs.Growing.{IsWithin}
use Rattle.expand_runs.specs.Showing.{Known}
use Rattle.expand_runs.proofs.Rows.{run_of, one_piece}
use Rattle.expand_runs.proofs.Evaluating.{on_same}
use Rattle.expand_runs.proofs.Sames.{goes_same, same_more, then_same, same_as}
use Rattle.expand_runs.proofs.FineExpressions.{CalleesKeep}
use Rattle.expanded_programs.specs.Statements.Ending.{Ends}
use Rattle.expanded_programs.specs.Statements.Results.{HasResult}
use Rattle.expanded_programs.specs.Statements.Scopes.{Setting, Reach, Among, AreNew, enter, behind, behind_all, objects_in, IsSoundIn, StmtSound, StmtsSound}
use Rattle.expanded_programs.specs.Statements.Frames.{IsFrame, IsScene, Relates, HomesIn, LivesIn, seen_behind, seen_all}
use Rattle.expanded_programs.proofs.StatementsLemmas.Scenes.{seen_cell}
use Rattle.expanded_programs.proofs.StatementsLemmas.Actions.{HasValue, evaluated, expression_later}
use Rattle.expanded_programs.proofs.StatementsLemmas.Controls.{behind_switch_same}
use Rattle.expanded_programs.proofs.StatementsLemmas.Moving.{relates_inner, relates_entered, new_reachable, scene_later, in_enter}
use Rattle.expanded_programs.proofs.StatementsLemmas.StatementParts.{ends_more, inner_behind, inner_all, among_new, scene_made, end_point}
use Rattle.expanded_programs.proofs.StatementsLemmas.Declarations.{skip_declared}
use Rattle.expanded_programs.proofs.StatementsLemmas.Labels.{first_target, case_is_first, default_is_first, no_fronts, from_drop}

-- a switch behind its controlling value
pick_run : (f : Frame) (test : PureTree) (labels : List Label) (main : List PieceTree) (end : Point) (t : Store) (n : ℕ) (v : ℤ) (word : ℕ) → pm.switch_word (kind test) v ≡ word → value f.arrays test t ≡ is v
    → run_of f (tree.pick test labels (piece_row main) end ∷ []) t n ≡ Steps.then_ (pm.from_target (pm.target word labels) (λ j t2 n2. from_piece f (piece_row main) j t2 n2) t n) (λ w t2 n2. pm.behind_switch w end t2 n2)
pick_run f test labels main end t n v word is_word e =
    one_piece f (tree.pick test labels (piece_row main) end) t n
    ∙ ap (λ z. valued z (λ x t1 n1. Steps.then_ (pm.from_target (pm.target (pm.switch_word (kind test) x) labels) (λ j t2 n2. from_piece f (piece_row main) j t2 n2) t1 n1) (λ w t2 n2. pm.behind_switch w end t2 n2)) t n) e
    ∙ ap (λ z. Steps.then_ (pm.from_target (pm.target z labels) (λ j t2 n2. from_piece f (piece_row main) j t2 n2) t n) (λ w t2 n2. pm.behind_switch w end t2 n2)) is_word

module _ (unary_fits : UnaryFits) (binary_fits : BinaryFits) (f : Frame) (k : ℕ) (here : Here) (c : Call) (S : Setting) (Homes0 : Spot → Home → Type 0) (Lives0 : Spot → Type 0) (kinds : Known) (fresh_ base : ℕ) (frame : IsFrame f here c S Homes0 Lives0 kinds fresh_ base) (cc : CoreCalls) (g : Callee) (callees : (r : Reach) → CalleesKeep f (objects_in S r) g c) (calls : (r : Reach) (seen : ℕ → Option ArrayId) (st : State) → IsScene f c S Homes0 base r seen st → CallsSame k f here c (objects_in S r) (HomesIn here c Homes0 Lives0 seen) (LivesIn here c Homes0 Lives0 r) kinds base (length st.arrays) (seen_cell seen) cc g) (counts : CalleesCount g c) where
  abbrev I : Reach → (ℕ → Option ArrayId) → Cells → Store → Type 0
  I = Relates f here c Homes0 Lives0 kinds

  abbrev Q : Option ℤ → Cells → Store → Type 0
  Q = HasResult f c Homes0 Lives0 kinds

  abbrev E : Reach → (ℕ → Option ArrayId) → (Cells → Store → Type 0) → (Cells → Store → Type 0) → Bool → Bool → Completion → Cells → Way → Store → Type 0
  E r seen B C tail lv = Ends (I r seen) B C Q c.call tail lv

  -- a statement that a jump skips
  pub skip_behind : (b : CoreStmtTree) (r : Reach) (seen : ℕ → Option ArrayId) (Own : ℕ → Type 0) (labels breaks continues : Bool) (st : State) → StmtSound S r Own labels breaks continues b → IsScene f c S Homes0 base r seen st → IsWithin (statement g c b false st).state f
      → (s : Cells) (t : Store) → I r seen s t → I (behind b r) (seen_behind c b st seen) s t
  skip_behind (core.declare object init) r seen Own labels breaks continues st sound scene within s t rel = skip_declared unary_fits binary_fits f k here c S Homes0 Lives0 kinds fresh_ base frame cc g callees calls object init r seen Own labels breaks continues st sound scene within s t rel
  skip_behind (core.block objects body) r seen Own labels breaks continues st sound scene within s t rel = rel
  skip_behind (core.act list) r seen Own labels breaks continues st sound scene within s t rel = rel
  skip_behind (core.if_ test body other at) r seen Own labels breaks continues st sound scene within s t rel = rel
  skip_behind (core.switch_ test objects body at) r seen Own labels breaks continues st sound scene within s t rel = rel
  skip_behind (core.case_ value_ body at) r seen Own labels breaks continues st sound scene within s t rel = rel
  skip_behind (core.while_ test body at) r seen Own labels breaks continues st sound scene within s t rel = rel
  skip_behind (core.do_ body test at) r seen Own labels breaks continues st sound scene within s t rel = rel
  skip_behind (core.for_ objects init test step body at) r seen Own labels breaks continues st sound scene within s t rel = rel
  skip_behind core.break_ r seen Own labels breaks continues st sound scene within s t rel = rel
  skip_behind core.continue_ r seen Own labels breaks continues st sound scene within s t rel = rel
  skip_behind (core.return_ value_) r seen Own labels breaks continues st sound scene within s t rel = rel

  -- Where nothing may be declared, what holds behind a statement holds where it stands.
  pub out_of : (body : CoreStmtTree) (r : Reach) (seen : ℕ → Option ArrayId) (labels breaks continues : Bool) (st : State) (B C : Cells → Store → Type 0) (tail lv : Bool) (q : Ran Cells Completion) (p : Ran Store Way) → StmtSound S r (λ i. ⊥) labels breaks continues body
      → Same false k (E (behind body r) (seen_behind c body st seen) B C false lv) q p → Same false k (E r seen B C tail lv) q p
  out_of body r seen labels breaks continues st B C tail lv q p sound h =
      same_more k k (E (behind body r) (seen_behind c body st seen) B C false lv) (E r seen B C tail lv) q p (le_refl k)
      (λ z s2 w t2 a. ends_more (I (behind body r) (seen_behind c body st seen)) (I r seen) B B C C Q c.call false tail lv lv
      (λ s3 t3 d. relates_inner f here c S Homes0 Lives0 kinds fresh_ base frame (behind body r) r (seen_behind c body st seen) seen s3 t3 (inner_behind unary_fits binary_fits f k here c S Homes0 Lives0 kinds fresh_ base frame cc g callees calls body r seen (λ i. ⊥) labels breaks continues st r seen sound (λ i o l. o) (record { lives = λ i l. l; same = λ i l. refl })) d) (λ s3 t3 d. d) (λ s3 t3 d. d) (λ e. absurd (false≢true e)) (λ e. e) z s2 w t2 a) h

  -- ---- jumps

  -- The pieces of a statement from the first label of this kind on, which names the piece with this number, do what the statement does from the label on.
  abbrev pub StartsAt : (Option ℕ → Bool) → CoreStmtTree → Reach → (ℕ → Option ArrayId) → State → (Cells → Store → Type 0) → (Cells → Store → Type 0) → Type 0
  StartsAt wanted b r seen st B C =
      (j : ℕ) × (j ≤ length (statement g c b false st).pieces) × (first_target wanted (statement g c b false st).labels ≡ Some (st.made + j))
      × ((s : Cells) (t : Store) (n : ℕ) → n ≤ k → I r seen s t → Same false k (E (behind b r) (seen_behind c b st seen) B C false (leaves b false)) (ks.labelled cc wanted b here s n) (run_of f (drop j (statement g c b false st).pieces) t n))

  -- the same of the items of a switch
  abbrev pub JumpsTo : (Option ℕ → Bool) → CoreStmtTrees → Reach → (ℕ → Option ArrayId) → State → (Cells → Store → Type 0) → (Cells → Store → Type 0) → Type 0
  JumpsTo wanted body r seen st B C =
      (j : ℕ) × (first_target wanted (statements g c body false st).labels ≡ Some (st.made + j))
      × ((s : Cells) (t : Store) (n : ℕ) → n ≤ k → I r seen s t → Same false k (E (behind_all body r) (seen_all g c body false st seen) B C false (any_leaves body false)) (ks.jump cc wanted body here s n) (run_of f (drop j (statements g c body false st).pieces) t n))

  no_jump : (wanted : Option ℕ → Bool) (body : CoreStmtTrees) (s : Cells) (n : ℕ) → any_label wanted body ≡ false → ks.jump cc wanted body here s n ≡ goes end.Normal s n
  no_jump wanted core.no_stmt s n e = refl
  no_jump wanted (core.more_stmts first rest) s n e = elim (cases_Bool (has_label wanted first)) [
    | inl is_ ↦ absurd (true≢false (sym (ap (λ z. if z then true else any_label wanted rest) is_) ∙ e))
    | inr is_ ↦
        ap (λ z. if z then Steps.then_ (ks.labelled cc wanted first here s n) (λ x s1 n1. ks.go_on x (ks.statements cc false rest here) s1 n1) else ks.jump cc wanted rest here s n) is_
        ∙ no_jump wanted rest s n (sym (ap (λ z. if z then true else any_label wanted rest) is_) ∙ e)
  ]

  module _ (objects : List ℕ) (body : CoreStmtTrees) (r : Reach) (seen : ℕ → Option ArrayId) (continues : Bool) (st : State) (C : Cells → Store → Type 0) (new : AreNew S r objects) (sound : StmtsSound S (enter objects r) (λ i. Among objects i) true true continues body) (scene : IsScene f c S Homes0 base r seen st)
      (jumps : (wanted : Option ℕ → Bool) → any_label wanted body ≡ true → JumpsTo wanted body (enter objects r) seen st (I r seen) C) (nothing : st.made ≡ 0) where
    abbrev Ended : Completion → Cells → Way → Store → Type 0
    Ended = E r seen (I r seen) C false (any_leaves body false)

    abbrev labels_ : List Label
    labels_ = (statements g c body false st).labels

    abbrev from_ : ℕ → Store → ℕ → Ran Store Way
    from_ j t n = from_piece f (piece_row (statements g c body false st).pieces) j t n

    in_body : (s : Cells) (t : Store) → I r seen s t → I (enter objects r) seen (entered here objects s) t
    in_body s t rel = relates_entered f here c S Homes0 Lives0 kinds fresh_ base frame objects r seen st s t scene (new_reachable f here c S Homes0 Lives0 kinds fresh_ base frame objects r new) rel

    number_is : (wanted : Option ℕ → Bool) (j : ℕ) → first_target wanted labels_ ≡ Some (st.made + j) → first_target wanted labels_ ≡ Some j
    number_is wanted j e = e ∙ ap Some (let z : st.made + j ≡ j = omega (arith, nothing) in z)

    jumped : (wanted : Option ℕ → Bool) (w : JumpsTo wanted body (enter objects r) seen st (I r seen) C) (word : ℕ) → ks.target_label word body ≡ wanted → pm.target word labels_ ≡ Some w.0 → (s : Cells) (t : Store) (n : ℕ) → n ≤ k → I r seen s t
        → Same false k Ended (ks.jump cc (ks.target_label word body) body here (entered here objects s) n) (pm.from_target (pm.target word labels_) from_ t n)
    jumped wanted w word label_ target_ s t n le rel =
        let r2 = behind_all body (enter objects r) in
        let seen2 = seen_all g c body false st seen in
        let lv = any_leaves body false in
        subst (λ z. Same false k Ended (ks.jump cc z body here (entered here objects s) n) (pm.from_target (pm.target word labels_) from_ t n)) (sym label_)
        (subst (λ z. Same false k Ended (ks.jump cc wanted body here (entered here objects s) n) (pm.from_target z from_ t n)) (sym target_)
        (same_as k Ended (ks.jump cc wanted body here (entered here objects s) n) (run_of f (drop w.0 (statements g c body false st).pieces) t n) (from_ w.0 t n) (from_drop f (statements g c body false st).pieces w.0 t n)
        (same_more k k (E r2 seen2 (I r seen) C false lv) Ended (ks.jump cc wanted body here (entered here objects s) n) (run_of f (drop w.0 (statements g c body false st).pieces) t n) (le_refl k)
        (λ z s1 w1 t1 a. ends_more (I r2 seen2) (I r seen) (I r seen) (I r seen) C C Q c.call false false lv lv
        (λ s3 t3 h. relates_inner f here c S Homes0 Lives0 kinds fresh_ base frame r2 r seen2 seen s3 t3 (inner_all unary_fits binary_fits f k here c S Homes0 Lives0 kinds fresh_ base frame cc g callees calls body (enter objects r) seen (λ i. Among objects i) true true continues false st r seen sound (λ i m l. among_new unary_fits binary_fits f k here c S Homes0 Lives0 kinds fresh_ base frame cc g callees calls objects r i new m l) (in_enter f here c S Homes0 Lives0 kinds fresh_ base frame objects r seen)) h) (λ s3 t3 h. h) (λ s3 t3 h. h) (λ e. e) (λ e. e) z s1 w1 t1 a)
        (w.2 (entered here objects s) t n le (in_body s t rel)))))

    -- The items from the label of a word on, or from the default on, or none.
    at_label : (word : ℕ) (s : Cells) (t : Store) (n : ℕ) → n ≤ k → I r seen s t → Same false k Ended (ks.jump cc (ks.target_label word body) body here (entered here objects s) n) (pm.from_target (pm.target word labels_) from_ t n)
    at_label word s t n le rel = elim (cases_Bool (any_label (is_label word) body)) [
      | inl e ↦
          let w = jumps (is_label word) e in
          jumped (is_label word) w word (ap (λ z. if z then is_label word else is_default) e) (ap (λ z. pm.or_else z (pm.default_target labels_)) (case_is_first word labels_ ∙ number_is (is_label word) w.0 w.1)) s t n le rel
      | inr e ↦
          let label_ : ks.target_label word body ≡ is_default = ap (λ z. if z then is_label word else is_default) e in
          let no_case : pm.case_target word labels_ ≡ None = case_is_first word labels_ ∙ no_fronts S g c counts (is_label word) body st (enter objects r) (λ i. Among objects i) true continues sound e in
          elim (cases_Bool (any_label is_default body)) [
            | inl d ↦
                let w = jumps is_default d in
                jumped is_default w word label_ (ap₂ pm.or_else no_case (default_is_first labels_ ∙ number_is is_default w.0 w.1)) s t n le rel
            | inr d ↦
                let nowhere : pm.target word labels_ ≡ None = ap₂ pm.or_else no_case (default_is_first labels_ ∙ no_fronts S g c counts is_default body st (enter objects r) (λ i. Among objects i) true continues sound d) in
                let s1 = entered here objects s in
                subst (λ z. Same false k Ended (ks.jump cc z body here s1 n) (pm.from_target (pm.target word labels_) from_ t n)) (sym label_)
                (subst (λ z. Same false k Ended (ks.jump cc is_default body here s1 n) (pm.from_target z from_ t n)) (sym nowhere)
                (subst (λ z. Same false k Ended z (goes on t n)) (sym (no_jump is_default body s1 n d))
                (goes_same k Ended end.Normal s1 on t n le (refl, relates_inner f here c S Homes0 Lives0 kinds fresh_ base frame (enter objects r) r seen seen s1 t (in_enter f here c S Homes0 Lives0 kinds fresh_ base frame objects r seen) (in_body s t rel)))))
          ]
    ]

  -- A switch, where its items do what they do from each label on.
  pub switch_same : (test : CoreTree) (objects : List ℕ) (body : CoreStmtTrees) (at : Place) (r : Reach) (seen : ℕ → Option ArrayId) (continues tail : Bool) (st : State) (B C : Cells → Store → Type 0) → IsSoundIn S r test → AreNew S r objects → StmtsSound S (enter objects r) (λ i. Among objects i) true true continues body
      → IsScene f c S Homes0 base r seen st → IsWithin (expression g c test st).state f → ((wanted : Option ℕ → Bool) → any_label wanted body ≡ true → JumpsTo wanted body (enter objects r) seen (record (expression g c test st).state { made = 0 }) (I r seen) C)
      → (s : Cells) (t : Store) (n : ℕ) → n ≤ k → I r seen s t → Same false k (E r seen B C tail (any_leaves body false)) (ks.statement cc tail (core.switch_ test objects body at) here s n) (run_of f (switched g c test (statements g c body false) at st).pieces t n)
  unfolding then_ emit inside inside_switch
  switch_same test objects body at r seen continues tail st B C test_sound new sound scene within jumps s t n le rel =
      let x = expression g c test st in
      let st0 = record x.state { made = 0 } in
      let y = statements g c body false st0 in
      let lv = any_leaves body false in
      let end_ = point_at point.End at here in
      let scene0 = scene_made unary_fits binary_fits f k here c S Homes0 Lives0 kinds fresh_ base frame cc g callees calls 0 r seen x.state (scene_later f here c S Homes0 Lives0 kinds fresh_ base frame r seen st x.state (expression_later unary_fits binary_fits f k here c S Homes0 Lives0 kinds fresh_ base frame cc g callees calls r seen st scene test) scene) in
      let inner = λ (v : ℤ) (s1 : Cells) (n1 : ℕ). ks.jump cc (ks.target_label (ks.switch_word (kind_of test) v) body) body here (entered here objects s1) n1 in
      subst (λ p. Same false k (E r seen B C tail lv) (ks.statement cc tail (core.switch_ test objects body at) here s n) (run_of f (x.pieces ++ (tree.pick x.value y.labels (piece_row y.pieces) p ∷ [])) t n)) (sym (end_point unary_fits binary_fits f k here c S Homes0 Lives0 kinds fresh_ base frame cc g callees calls point.End at))
      (on_same f k (HasValue unary_fits binary_fits f k here c S Homes0 Lives0 kinds fresh_ base frame cc g callees calls true test x.value r seen) (E r seen B C tail lv) x.pieces (tree.pick x.value y.labels (piece_row y.pieces) end_ ∷ []) (ce.expression cc true test here s n) (λ v s1 n1. Steps.then_ (inner v s1 n1) (λ z s2 n2. ks.behind_breakable z at here s2 n2)) t n
      (evaluated unary_fits binary_fits f k here c S Homes0 Lives0 kinds fresh_ base frame cc g callees calls true test r seen st scene test_sound within s t n le rel) (λ v s1 w t1 a. a.on_)
      (λ v s1 w t1 n1 le1 a.
      let word = ks.switch_word (kind_of test) v in
      let whole = pm.from_target (pm.target word y.labels) (λ j t2 n2. from_piece f (piece_row y.pieces) j t2 n2) t1 n1 in
      same_as k (E r seen B C tail lv) (Steps.then_ (inner v s1 n1) (λ z s2 n2. ks.behind_breakable z at here s2 n2)) (Steps.then_ whole (λ w2 t2 n2. pm.behind_switch w2 end_ t2 n2)) (run_of f (tree.pick x.value y.labels (piece_row y.pieces) end_ ∷ []) t1 n1)
      (pick_run f x.value y.labels y.pieces end_ t1 n1 v word (ap (λ kd. ks.switch_word kd v) (a.value tt).1) (a.value tt).0)
      (then_same k (E r seen (I r seen) C false lv) (E r seen B C tail lv) (inner v s1 n1) whole (λ z s2 n2. ks.behind_breakable z at here s2 n2) (λ w2 t2 n2. pm.behind_switch w2 end_ t2 n2)
      (at_label objects body r seen continues st0 C new sound scene0 jumps refl word s1 t1 n1 le1 a.relates)
      (λ z s2 w2 t2 n2 le2 b.
      same_more k k (E r seen B C false lv) (E r seen B C tail lv) (ks.behind_breakable z at here s2 n2) (pm.behind_switch w2 end_ t2 n2) (le_refl k)
      (λ z3 s3 w3 t3 d. ends_more (I r seen) (I r seen) B B C C Q c.call false tail lv lv (λ s4 t4 h. h) (λ s4 t4 h. h) (λ s4 t4 h. h) (λ e. absurd (false≢true e)) (λ e. e) z3 s3 w3 t3 d)
      (behind_switch_same f k (I r seen) B C Q c.call lv at here z w2 s2 t2 n2 le2 b)))))
