-- Statements do what their pieces do.
use Rattle.std.proofs.Common.{◌≡◌, ◌≢◌, ℕ, ◌≤◌, ◌<◌, ◌==◌, ◌⊎◌, inl, inr, ◌∙◌, sym, refl, ap, subst, ℤ, pos, Bool, true, false, true≢false, ◌&&◌, ◌||◌, List, [], ◌∷◌, ◌++◌, length, slice_get, Option, Some, None, le_refl, le_trans, arith, if◌then◌else◌}
use Rattle.std.proofs.lemmas.List.{append-nil, append_assoc}
use Rattle.hls_base.specs.declared.place.Place.{Place}
use Rattle.hls_base.specs.declared.number.ArrayId.{ArrayId}
use Rattle.hls_base.specs.declared.point.PointKind.{PointKind}
use Rattle.hls_base.specs.declared.point.PointKind.TheVariants as point
use Rattle.c_meaning.specs.declared.value.Completion.TheVariants as end
use Rattle.c_value.specs.Operators.{is_true}
use Rattle.pieces.specs.Resolved.Core as core
use Rattle.pieces.specs.Resolved.Core.{CoreTree, CoreActionTree, CoreStmtTree, CoreStmtTrees, CoreElseTree, CoreObjectTree}
use Rattle.piece_making.specs.declared.frame.Home.{Home}
use Rattle.piece_making.specs.declared.frame.Home.TheVariants as home
use Rattle.piece_making.specs.declared.work.Slot.{Slot}
use Rattle.piece_making.specs.Making.{State, Part, then_, emit, inside, next_loop}
use Rattle.piece_making.specs.Calls.{Call, point_in, variable}
use Rattle.piece_making.specs.Leaving.{leaves, else_leaves, any_leaves, is_empty}
use Rattle.piece_making.specs.Assigning.{one}
use Rattle.pieces.specs.Trees as tree
use Rattle.pieces.specs.Trees.{PureTree, PieceTree, piece_row}
use Rattle.hls_base.specs.Steps as Steps
use Rattle.hls_base.specs.Steps.{Ran, goes, reached}
use Rattle.hls_base.specs.Valued.{is}
use Rattle.hls_base.specs.Same.{Same}
use Rattle.c_meaning.specs.CoreRuns.Cells.{Spot, Cells, Here, entered}
use Rattle.c_meaning.specs.CoreRuns.Expressions as ce
use Rattle.c_meaning.specs.CoreRuns.Expressions.{CoreCalls, point_at}
use Rattle.c_meaning.specs.CoreRuns.Statements as ks
use Rattle.c_meaning.specs.PieceRuns.Values.{Store, value}
use Rattle.c_meaning.specs.PieceRuns.Pieces.{Frame, Way, on, behind_fork, behind_loop, left}
use Rattle.c_meaning.specs.PieceRuns.Pieces as pm
use Rattle.c_expand.specs.Expressions.{Callee, expression}
use Rattle.c_expand.specs.Statements.{tested, stepped, actions, repeat, branch, other_branch, statement, statements, result_variable}
use Rattle.expanded_programs.specs.Statements.Ending.{Ends, Turns}
use Rattle.expanded_programs.specs.Statements.Results.{HasResult}
use Rattle.expanded_programs.specs.Statements.Scopes.{Setting, Reach, Among, enter, behind, behind_all, objects_in, IsSoundIn, TestSound, ActionsSound, StmtSound, ElseSound, StmtsSound, AreNew}
use Rattle.expanded_programs.specs.Statements.Frames.{IsFrame, IsScene, IsInner, Relates, HomesIn, LivesIn, with_seen, made_for, seen_behind, seen_all}
use Rattle.expand_runs.proofs.Rows.{run_of, going_on, landed_in}
use Rattle.expand_runs.proofs.Evaluating.{on_same}
use Rattle.expand_runs.proofs.Forks.{fork_run}
use Rattle.expand_runs.proofs.Sames.{goes_same, same_more, then_same, same_as}
use Rattle.expanded_programs.proofs.StatementsLemmas.Controls.{behind_if_same, loop_same, sequence_same}
use Rattle.expand_runs.proofs.Rows.{one_piece}
use Rattle.expanded_programs.proofs.StatementsLemmas.LoopParts.{mark_reached, if_same, tested_same, untested_same, body_same, no_step_same, step_same, first_same, last_same}
use Rattle.expanded_programs.proofs.StatementsLemmas.Actions.{HasValue, evaluated, expression_later, actions_same, actions_grown}
use Rattle.expanded_programs.proofs.StatementsLemmas.Moving.{relates_inner, relates_entered, new_reachable, scene_enter, scene_grown, scene_later, in_enter}
use Rattle.expand_runs.specs.Reading.{BinaryFits, UnaryFits}
use Rattle.expanded_programs.proofs.StatementsLemmas.Scenes.{seen_cell}
use Rattle.expand_runs.specs.Growing.{LandsFrom}
use Rattle.expand_runs.specs.Showing.{Known}
use Rattle.expand_runs.proofs.Fine.{Sets}
use Rattle.expand_runs.specs.Calling.{CallsSame}
use Rattle.expanded_programs.proofs.StatementsLemmas.SoundEach.{sound_each, sounds_each, sound_returns, sounds_return}
use Rattle.hls_base.specs.declared.number.VarId.{VarId}
use Rattle.expand_runs.specs.Sound.{Changes}
use Rattle.expand_runs.specs.Fitting.{Anything, CallsFit}
use Rattle.expanded_programs.proofs.StatementsLemmas.FineStatements.{statement_keeps, statements_keep, Keeps, repeat_keeps}
use Rattle.expand_runs.proofs.FineExpressions.{CalleesKeep, any_fit}
use Rattle.pieces.specs.declared.resolved.expression.Cell.{Cell}
use Rattle.c_meaning.specs.declared.value.Completion.{Completion}
use Rattle.pieces.specs.declared.piece.CallId.{CallId}
use Rattle.std.proofs.lemmas.Bool.Decides.{eqb_tells}
use Rattle.expanded_programs.specs.Statements.Each.{EachAction, IfThere}

-- ---- ways to end

pub ends_more : (I J B B' C C' : Cells → Store → Type 0) (Q : Option ℤ → Cells → Store → Type 0) (call : CallId) (tail tail' lv lv' : Bool) → ((s : Cells) (t : Store) → I s t → J s t) → ((s : Cells) (t : Store) → B s t → B' s t) → ((s : Cells) (t : Store) → C s t → C' s t)
    → (tail ≡ true → tail' ≡ true) → (lv ≡ true → lv' ≡ true) → (x : Completion) (s : Cells) (w : Way) (t : Store) → Ends I B C Q call tail lv x s w t → Ends J B' C' Q call tail' lv' x s w t
ends_more I J B B' C C' Q call tail tail' lv lv' i b c e l end.Normal s w t h = (h.0, i s t h.1)
ends_more I J B B' C C' Q call tail tail' lv lv' i b c e l end.Broke s w t h = (h.0, b s t h.1)
ends_more I J B B' C C' Q call tail tail' lv lv' i b c e l end.Continued s w t h = (h.0, c s t h.1)
ends_more I J B B' C C' Q call tail tail' lv lv' i b c e l (end.Returned v true) s w t h = (h.0, e h.1, h.2)
ends_more I J B B' C C' Q call tail tail' lv lv' i b c e l (end.Returned v false) s w t h = (h.0, l h.1, h.2)

pub empty_last : (rest : CoreStmtTrees) → ks.is_last rest ≡ is_empty rest
empty_last core.no_stmt = refl
empty_last (core.more_stmts first rest) = refl

pub and_first : (a b : Bool) → a && b ≡ true → a ≡ true
and_first true b e = refl
and_first false b e = e

pub and_second : (a b : Bool) → a && b ≡ true → b ≡ true
and_second true b e = e
and_second false b e = absurd (true≢false (sym e))

-- no end of an earlier call is among these
pub lands_pass : (f : Frame) (m : ℕ) (call : CallId) (xs : List PieceTree) → call.0 < m → LandsFrom m xs → (t : Store) (n : ℕ) → landed_in f xs call t n ≡ goes (left call) t n
lands_pass f m call [] lt h t n = refl
lands_pass f m call (tree.land other end ∷ xs) lt h t n =
    elim (eqb_tells call.0 other.0) [
      | inl e ↦ absurd (let a = h.0 in let q = e.1 in omega (arith, lt, a, q))
      | inr e ↦ ap (λ b. if b then Steps.then_ (pm.behind end t n) (λ w t1 n1. run_of f xs t1 n1) else landed_in f xs call t n) e.0 ∙ lands_pass f m call xs lt h.1 t n
    ]
lands_pass f m call (tree.set name v ∷ xs) lt h t n = lands_pass f m call xs lt h.1 t n
lands_pass f m call (tree.put array subscripts v at ∷ xs) lt h t n = lands_pass f m call xs lt h.1 t n
lands_pass f m call (tree.fork test first second end ∷ xs) lt h t n = lands_pass f m call xs lt h.1 t n
lands_pass f m call (tree.repeat_ id post before test body step end ∷ xs) lt h t n = lands_pass f m call xs lt h.1 t n
lands_pass f m call (tree.pick test labels body end ∷ xs) lt h t n = lands_pass f m call xs lt h.1 t n
lands_pass f m call (tree.break_ ∷ xs) lt h t n = lands_pass f m call xs lt h.1 t n
lands_pass f m call (tree.next_ ∷ xs) lt h t n = lands_pass f m call xs lt h.1 t n
lands_pass f m call (tree.leave other ∷ xs) lt h t n = lands_pass f m call xs lt h.1 t n
lands_pass f m call (tree.mark p ∷ xs) lt h t n = lands_pass f m call xs lt h.1 t n

module _ (unary_fits : UnaryFits) (binary_fits : BinaryFits) (f : Frame) (k : ℕ) (here : Here) (c : Call) (S : Setting) (Homes0 : Spot → Home → Type 0) (Lives0 : Spot → Type 0) (kinds : Known) (fresh_ base : ℕ) (frame : IsFrame f here c S Homes0 Lives0 kinds fresh_ base) (cc : CoreCalls) (g : Callee) (callees : (r : Reach) → CalleesKeep f (objects_in S r) g c) (calls : (r : Reach) (seen : ℕ → Option ArrayId) (st : State) → IsScene f c S Homes0 base r seen st → CallsSame k f here c (objects_in S r) (HomesIn here c Homes0 Lives0 seen) (LivesIn here c Homes0 Lives0 r) kinds base (length st.arrays) (seen_cell seen) cc g) where
  abbrev I : Reach → (ℕ → Option ArrayId) → Cells → Store → Type 0
  I = Relates f here c Homes0 Lives0 kinds

  abbrev Q : Option ℤ → Cells → Store → Type 0
  Q = HasResult f c Homes0 Lives0 kinds

  -- where a `break` or a `continue` leads: to a place outside, whose stores are related by B
  pub record LeadsTo (r : Reach) (seen : ℕ → Option ArrayId) (Own : ℕ → Type 0) (B : Cells → Store → Type 0) : Type 1 where
    pub reach_ : Reach
    pub seen_ : ℕ → Option ArrayId
    pub inner : IsInner r seen reach_ seen_
    pub apart : (i : ℕ) → Own i → reach_.Lives i → ⊥
    pub relates : (s : Cells) (t : Store) → I reach_ seen_ s t → B s t

  pub leads_here : (r : Reach) (seen : ℕ → Option ArrayId) → LeadsTo r seen (λ i. ⊥) (I r seen)
  leads_here r seen = record { reach_ = r; seen_ = seen; inner = record { lives = λ i l. l; same = λ i l. refl }; apart = λ i o l. o; relates = λ s t h. h }

  pub leads_within : (r : Reach) (seen : ℕ → Option ArrayId) (Own : ℕ → Type 0) (B : Cells → Store → Type 0) → LeadsTo r seen Own B → LeadsTo r seen (λ i. ⊥) B
  leads_within r seen Own B h = record { reach_ = h.reach_; seen_ = h.seen_; inner = h.inner; apart = λ i o l. o; relates = h.relates }

  pub among_new : (objects : List ℕ) (r : Reach) (i : ℕ) → AreNew S r objects → Among objects i → r.Lives i → ⊥
  among_new [] r i new a l = a
  among_new (j ∷ js) r i new a l = elim a [ inl e ↦ new.0.1 (subst r.Lives e l) | inr m ↦ among_new js r i new.1 m l ]

  pub leads_enter : (objects : List ℕ) (r : Reach) (seen : ℕ → Option ArrayId) (Own : ℕ → Type 0) (B : Cells → Store → Type 0) → AreNew S r objects → LeadsTo r seen Own B → LeadsTo (enter objects r) seen (λ i. Among objects i) B
  leads_enter objects r seen Own B new h = record {
    reach_ = h.reach_;
    seen_ = h.seen_;
    inner = record { lives = λ i l. inr (h.inner.lives i l); same = h.inner.same };
    apart = λ i a l. among_new objects r i new a (h.inner.lives i l);
    relates = h.relates;
  }

  -- behind a statement what is outside is as it was
  pub inner_behind : (b : CoreStmtTree) (r : Reach) (seen : ℕ → Option ArrayId) (Own : ℕ → Type 0) (labels breaks continues : Bool) (st : State) (r0 : Reach) (seen0 : ℕ → Option ArrayId) → StmtSound S r Own labels breaks continues b → ((i : ℕ) → Own i → r0.Lives i → ⊥) → IsInner r seen r0 seen0
      → IsInner (behind b r) (seen_behind c b st seen) r0 seen0
  inner_behind (core.declare object init) r seen Own labels breaks continues st r0 seen0 sound apart h = record {
    lives = h.lives;
    same = λ i l. (
        elim (eqb_tells object i) [
          | inl e ↦ absurd (apart object sound.0 (subst r0.Lives (sym e.1) l))
          | inr e ↦ ap (λ z. if z then made_for (slice_get c.homes object) st else seen i) e.0 ∙ h.same i l
        ]);
  }
  inner_behind (core.block objects body) r seen Own labels breaks continues st r0 seen0 sound apart h = h
  inner_behind (core.act actions) r seen Own labels breaks continues st r0 seen0 sound apart h = h
  inner_behind (core.if_ test body other at) r seen Own labels breaks continues st r0 seen0 sound apart h = h
  inner_behind (core.switch_ test objects body at) r seen Own labels breaks continues st r0 seen0 sound apart h = h
  inner_behind (core.case_ value body at) r seen Own labels breaks continues st r0 seen0 sound apart h = h
  inner_behind (core.while_ test body at) r seen Own labels breaks continues st r0 seen0 sound apart h = h
  inner_behind (core.do_ body test at) r seen Own labels breaks continues st r0 seen0 sound apart h = h
  inner_behind (core.for_ objects init test step body at) r seen Own labels breaks continues st r0 seen0 sound apart h = h
  inner_behind core.break_ r seen Own labels breaks continues st r0 seen0 sound apart h = h
  inner_behind core.continue_ r seen Own labels breaks continues st r0 seen0 sound apart h = h
  inner_behind (core.return_ value) r seen Own labels breaks continues st r0 seen0 sound apart h = h

  pub inner_all : (body : CoreStmtTrees) (r : Reach) (seen : ℕ → Option ArrayId) (Own : ℕ → Type 0) (labels breaks continues tail : Bool) (st : State) (r0 : Reach) (seen0 : ℕ → Option ArrayId) → StmtsSound S r Own labels breaks continues body → ((i : ℕ) → Own i → r0.Lives i → ⊥) → IsInner r seen r0 seen0
      → IsInner (behind_all body r) (seen_all g c body tail st seen) r0 seen0
  inner_all core.no_stmt r seen Own labels breaks continues tail st r0 seen0 sound apart h = h
  inner_all (core.more_stmts first rest) r seen Own labels breaks continues tail st r0 seen0 sound apart h =
      inner_all rest (behind first r) (seen_behind c first st seen) Own labels breaks continues tail (statement g c first (tail && is_empty rest) st).state r0 seen0 sound.1 apart (inner_behind first r seen Own labels breaks continues st r0 seen0 sound.0 apart h)

  pub leads_behind : (b : CoreStmtTree) (r : Reach) (seen : ℕ → Option ArrayId) (Own : ℕ → Type 0) (labels breaks continues : Bool) (st : State) (B : Cells → Store → Type 0) → StmtSound S r Own labels breaks continues b → LeadsTo r seen Own B → LeadsTo (behind b r) (seen_behind c b st seen) Own B
  leads_behind b r seen Own labels breaks continues st B sound h = record {
    reach_ = h.reach_;
    seen_ = h.seen_;
    inner = inner_behind b r seen Own labels breaks continues st h.reach_ h.seen_ sound h.apart h.inner;
    apart = h.apart;
    relates = h.relates;
  }

  pub leads_all : (body : CoreStmtTrees) (r : Reach) (seen : ℕ → Option ArrayId) (Own : ℕ → Type 0) (labels breaks continues tail : Bool) (st : State) (B : Cells → Store → Type 0) → StmtsSound S r Own labels breaks continues body → LeadsTo r seen Own B → LeadsTo (behind_all body r) (seen_all g c body tail st seen) Own B
  leads_all body r seen Own labels breaks continues tail st B sound h = record {
    reach_ = h.reach_;
    seen_ = h.seen_;
    inner = inner_all body r seen Own labels breaks continues tail st h.reach_ h.seen_ sound h.apart h.inner;
    apart = h.apart;
    relates = h.relates;
  }

  -- ---- what is made

  -- slots of declarations that were reached
  abbrev pub Kept : Reach → ℕ → Type 0
  Kept r j = (i : ℕ) × (slot : Slot) × (slice_get c.homes i ≡ Some (home.Local slot)) × (slot.0 ≡ j) × r.Ready i

  may_any : (r : Reach) (r1 : Reach) (e : CoreTree) → IsSoundIn S r1 e → CallsFit Anything e × ((x : Cell) → Changes x e → Sets f (λ t. Unit {0}) (variable c x).0)
  may_any r r1 e h = (any_fit e, λ x d t y u. tt)

  may_declare : (r r1 : Reach) (i : ℕ) → ((j : ℕ) → r.Ready j → r1.Ready j) → S.params ≤ i → (r1.Ready i → ⊥)
      → ((slot : Slot) → slice_get c.homes i ≡ Some (home.Local slot) → Kept r slot.0 → ⊥) × ((name : VarId) → slice_get c.homes i ≡ Some (home.Variable name) → Sets f (λ t. Unit {0}) name.0)
  may_declare r r1 i up le no_ = ((λ slot e p. no_ (subst r1.Ready (frame.own_slots p.0 i p.1 slot p.2 e p.3) (up p.0 p.4))), λ name e t y u. tt)

  pub keeps_stmt : (b : CoreStmtTree) (r : Reach) (Own : ℕ → Type 0) (labels breaks continues tail : Bool) (st : State) → StmtSound S r Own labels breaks continues b → Keeps f (λ t. Unit {0}) (Kept r) st (statement g c b tail st)
  keeps_stmt b r Own labels breaks continues tail st sound =
      statement_keeps f (λ t. Unit {0}) (Kept r) 0 (λ i le t x u. tt) g c Anything (callees r).any (λ i lt t x u. tt) (λ t a i x u. tt) b tail st (omega arith) (sound_returns S (Sets f (λ t. Unit {0}) (result_variable c.result).0) (λ kd e t x u. tt) b r Own labels breaks continues sound)
      (sound_each S (λ e. CallsFit Anything e × ((x : Cell) → Changes x e → Sets f (λ t. Unit {0}) (variable c x).0))
      (λ i. ((slot : Slot) → slice_get c.homes i ≡ Some (home.Local slot) → Kept r slot.0 → ⊥) × ((name : VarId) → slice_get c.homes i ≡ Some (home.Variable name) → Sets f (λ t. Unit {0}) name.0)) r (may_any r) (λ r1 i up le no_. may_declare r r1 i up le no_)
      b r Own labels breaks continues (λ j a. a) sound)

  pub keeps_stmts : (body : CoreStmtTrees) (r : Reach) (Own : ℕ → Type 0) (labels breaks continues tail : Bool) (st : State) → StmtsSound S r Own labels breaks continues body → Keeps f (λ t. Unit {0}) (Kept r) st (statements g c body tail st)
  keeps_stmts body r Own labels breaks continues tail st sound =
      statements_keep f (λ t. Unit {0}) (Kept r) 0 (λ i le t x u. tt) g c Anything (callees r).any (λ i lt t x u. tt) (λ t a i x u. tt) body tail st (omega arith) (sounds_return S (Sets f (λ t. Unit {0}) (result_variable c.result).0) (λ kd e t x u. tt) body r Own labels breaks continues sound)
      (sounds_each S (λ e. CallsFit Anything e × ((x : Cell) → Changes x e → Sets f (λ t. Unit {0}) (variable c x).0))
      (λ i. ((slot : Slot) → slice_get c.homes i ≡ Some (home.Local slot) → Kept r slot.0 → ⊥) × ((name : VarId) → slice_get c.homes i ≡ Some (home.Variable name) → Sets f (λ t. Unit {0}) name.0)) r (may_any r) (λ r1 i up le no_. may_declare r r1 i up le no_)
      body r Own labels breaks continues (λ j a. a) sound)

  abbrev Any : CoreTree → Type 0
  Any e = CallsFit Anything e × ((x : Cell) → Changes x e → Sets f (λ t. Unit {0}) (variable c x).0)

  abbrev AnyObject : Reach → ℕ → Type 0
  AnyObject r i = ((slot : Slot) → slice_get c.homes i ≡ Some (home.Local slot) → Kept r slot.0 → ⊥) × ((name : VarId) → slice_get c.homes i ≡ Some (home.Variable name) → Sets f (λ t. Unit {0}) name.0)

  any_test : (D : ℕ → Type 0) (test : Option CoreTree) → IfThere Any D test
  any_test D None = tt
  any_test D (Some e) = (any_fit e, λ x d t y u. tt)

  any_actions : (D : ℕ → Type 0) (list : List CoreActionTree) → EachAction Any D list
  any_actions D [] = tt
  any_actions D (a ∷ rest) = ((any_fit (ks.action_tree a), λ x d t y u. tt), any_actions D rest)

  pub keeps_loop_of : (test : Option CoreTree) (body : CoreStmtTree) (steps : List CoreActionTree) (at : Place) (r : Reach) (st : State) → StmtSound S r (λ i. ⊥) false true true body → Keeps f (λ t. Unit {0}) (Kept r) st (repeat g c false test (statement g c body false) steps at st)
  keeps_loop_of test body steps at r st sound =
      repeat_keeps f (λ t. Unit {0}) (Kept r) 0 (λ i le t x u. tt) g c Anything (callees r).any (λ i lt t x u. tt) (λ t a i x u. tt) false test (statement g c body false) steps at st (omega arith) (any_test (AnyObject r) test) (any_actions (AnyObject r) steps)
      (λ s1 le1. keeps_stmt body r (λ i. ⊥) false true true false s1 sound)

  pub kept_seen : (r : Reach) (seen : ℕ → Option ArrayId) (st : State) → IsScene f c S Homes0 base r seen st → (i : ℕ) (slot : Slot) (a : ArrayId) → slice_get c.homes i ≡ Some (home.Local slot) → seen i ≡ Some a → Kept r slot.0
  kept_seen r seen st scene i slot a e z = (i, slot, e, refl, scene.unready i a z)

  pub scene_made : (m : ℕ) (r : Reach) (seen : ℕ → Option ArrayId) (st : State) → IsScene f c S Homes0 base r seen st → IsScene f c S Homes0 base r seen (record st { made = m })
  scene_made m r seen st h = record {
    low = h.low;
    called = h.called;
    slots = h.slots;
    noted = h.noted;
    arrays = h.arrays;
    seen_low = h.seen_low;
    seen_apart = h.seen_apart;
    seen_own = h.seen_own;
    seen_fits = h.seen_fits;
    ready = h.ready;
    unready = h.unready;
  }

  pub end_point : (kind : PointKind) (at : Place) → point_in c kind at ≡ point_at kind at here
  end_point kind at = ap (λ p. record { path = p; at = at; kind = kind }) frame.path

  abbrev pub EndsAt : Reach → (ℕ → Option ArrayId) → (Cells → Store → Type 0) → (Cells → Store → Type 0) → Bool → Bool → Completion → Cells → Way → Store → Type 0
  EndsAt r seen B C tail lv = Ends (I r seen) B C Q c.call tail lv

  -- ---- parts

  -- something after which control goes on
  pub going_normal : {A : Type 0} (r : Reach) (seen : ℕ → Option ArrayId) (B C : Cells → Store → Type 0) (tail lv : Bool) (q : Ran Cells A) (xs : List PieceTree) (t : Store) (n : ℕ) → Same false k (λ (u : A) s1 w t1. (w ≡ on) × I r seen s1 t1) q (run_of f xs t n)
      → Same false k (EndsAt r seen B C tail lv) (Steps.then_ q (λ u s1 n1. goes end.Normal s1 n1)) (run_of f xs t n)
  going_normal {A} r seen B C tail lv q xs t n h =
      subst (λ zs. Same false k (EndsAt r seen B C tail lv) (Steps.then_ q (λ u s1 n1. goes end.Normal s1 n1)) (run_of f zs t n)) (append-nil xs)
      (on_same f k (λ (u : A) s1 w t1. (w ≡ on) × I r seen s1 t1) (EndsAt r seen B C tail lv) xs [] q (λ u s1 n1. goes end.Normal s1 n1) t n h (λ u s1 w t1 a. a.0)
      (λ u s1 w t1 n1 le a. goes_same k (EndsAt r seen B C tail lv) end.Normal s1 on t1 n1 le (refl, a.1)))

  -- a selection behind its test
  pub if_parts : (r : Reach) (seen : ℕ → Option ArrayId) (B C : Cells → Store → Type 0) (tail lv : Bool) (test : CoreTree) (x : PureTree) (xs first second : List PieceTree) (at : Place) (p q : Cells → ℕ → Ran Cells Completion) (s : Cells) (t : Store) (n : ℕ)
      → Same false k (HasValue unary_fits binary_fits f k here c S Homes0 Lives0 kinds fresh_ base frame cc g callees calls true test x r seen) (ce.expression cc true test here s n) (run_of f xs t n)
      → ((s1 : Cells) (t1 : Store) (n1 : ℕ) → n1 ≤ k → I r seen s1 t1 → Same false k (EndsAt r seen B C tail lv) (p s1 n1) (run_of f first t1 n1))
      → ((s1 : Cells) (t1 : Store) (n1 : ℕ) → n1 ≤ k → I r seen s1 t1 → Same false k (EndsAt r seen B C tail lv) (q s1 n1) (run_of f second t1 n1))
      → Same false k (EndsAt r seen B C tail lv) (Steps.then_ (ce.expression cc true test here s n) (λ v s1 n1. Steps.then_ (if is_true v then p s1 n1 else q s1 n1) (λ x1 s2 n2. ks.behind_if x1 at here s2 n2)))
      (run_of f (xs ++ (tree.fork x (piece_row first) (piece_row second) (point_in c point.End at) ∷ [])) t n)
  if_parts r seen B C tail lv test x xs first second at p q s t n h hp hq =
      subst (λ e. Same false k (EndsAt r seen B C tail lv) (Steps.then_ (ce.expression cc true test here s n) (λ v s1 n1. Steps.then_ (if is_true v then p s1 n1 else q s1 n1) (λ x1 s2 n2. ks.behind_if x1 at here s2 n2)))
      (run_of f (xs ++ (tree.fork x (piece_row first) (piece_row second) e ∷ [])) t n)) (sym (end_point point.End at))
      (on_same f k (HasValue unary_fits binary_fits f k here c S Homes0 Lives0 kinds fresh_ base frame cc g callees calls true test x r seen) (EndsAt r seen B C tail lv) xs (tree.fork x (piece_row first) (piece_row second) (point_at point.End at here) ∷ []) (ce.expression cc true test here s n)
      (λ v s1 n1. Steps.then_ (if is_true v then p s1 n1 else q s1 n1) (λ x1 s2 n2. ks.behind_if x1 at here s2 n2)) t n h (λ v s1 w t1 a. a.on_)
      (λ v s1 w t1 n1 le a.
      same_as k (EndsAt r seen B C tail lv) (Steps.then_ (if is_true v then p s1 n1 else q s1 n1) (λ x1 s2 n2. ks.behind_if x1 at here s2 n2))
      (Steps.then_ (if is_true v then run_of f first t1 n1 else run_of f second t1 n1) (λ w t2 n2. behind_fork w (point_at point.End at here) t2 n2)) _ (fork_run f x first second (point_at point.End at here) t1 n1 v (a.value tt).0)
      (then_same k (EndsAt r seen B C tail lv) (EndsAt r seen B C tail lv) (if is_true v then p s1 n1 else q s1 n1) (if is_true v then run_of f first t1 n1 else run_of f second t1 n1) (λ x1 s2 n2. ks.behind_if x1 at here s2 n2)
      (λ w t2 n2. behind_fork w (point_at point.End at here) t2 n2)
      (if_same k (EndsAt r seen B C tail lv) (is_true v) (p s1 n1) (q s1 n1) (run_of f first t1 n1) (run_of f second t1 n1) (λ e. hp s1 t1 n1 le a.relates) (λ e. hq s1 t1 n1 le a.relates))
      (λ x1 s2 w2 t2 n2 le2 b. behind_if_same f k (I r seen) B C Q c.call tail lv at here x1 w2 s2 t2 n2 le2 b))))

  -- a number behind a part whose value it has
  pub as_gives : (r : Reach) (seen : ℕ → Option ArrayId) (e : CoreTree) (x : PureTree) (xs : List PieceTree) (s : Cells) (t : Store) (n : ℕ) → Same false k (HasValue unary_fits binary_fits f k here c S Homes0 Lives0 kinds fresh_ base frame cc g callees calls true e x r seen) (ce.expression cc true e here s n) (run_of f xs t n)
      → Same false k (λ v s1 w t1. (w ≡ on) × I r seen s1 t1 × (value f.arrays x t1 ≡ is v)) (ce.expression cc true e here s n) (run_of f xs t n)
  as_gives r seen e x xs s t n h =
      same_more k k (HasValue unary_fits binary_fits f k here c S Homes0 Lives0 kinds fresh_ base frame cc g callees calls true e x r seen) (λ v s1 w t1. (w ≡ on) × I r seen s1 t1 × (value f.arrays x t1 ≡ is v)) (ce.expression cc true e here s n) (run_of f xs t n) (le_refl k) (λ v s1 w t1 a. (a.on_, a.relates, (a.value tt).0)) h
