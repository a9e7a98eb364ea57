-- A function's body does what its pieces do.
use Rattle.std.proofs.Common.{◌≡◌, ℕ, zero, suc, ◌≤◌, inl, ◌∙◌, sym, refl, ap, subst, ℤ, Bool, true, false, true≢false, ◌&&◌, List, [], ◌∷◌, ◌++◌, length, Option, Some, None, arith, if◌then◌else◌, eq-eqb}
use Rattle.std.specs.Prelude.{◌+◌, is_some}
use Rattle.std.proofs.lemmas.Option.{none-some}
use Rattle.hls_base.specs.declared.number.ArrayId.{ArrayId}
use Rattle.hls_base.specs.declared.point.Point.{Point}
use Rattle.hls_base.specs.declared.point.PointKind.TheVariants as point
use Rattle.hls_base.specs.declared.refusal.UbRule.TheVariants as ub
use Rattle.c_token.specs.declared.ctype.CType.{CType}
use Rattle.c_meaning.specs.declared.value.Completion.{Completion}
use Rattle.c_meaning.specs.declared.value.Completion.TheVariants as end
use Rattle.pieces.specs.Resolved.Core.{CoreFunctionTree}
use Rattle.pieces.specs.Trees as tree
use Rattle.pieces.specs.Trees.{PieceTree}
use Rattle.piece_making.specs.declared.frame.Home.{Home}
use Rattle.piece_making.specs.Making.{State, then_, emit}
use Rattle.piece_making.specs.Calls.{Call, point_in}
use Rattle.piece_making.specs.Leaving.{any_leaves}
use Rattle.hls_base.specs.Steps as Steps
use Rattle.hls_base.specs.Steps.{Ran, goes, fails, pass}
use Rattle.hls_base.specs.Same.{Follows, Same}
use Rattle.c_meaning.specs.CoreRuns.Cells.{Spot, Cells, Here, entered}
use Rattle.c_meaning.specs.CoreRuns.Expressions.{CoreCalls, point_at}
use Rattle.c_meaning.specs.CoreRuns.Statements as ks
use Rattle.c_meaning.specs.CoreRuns.Runs as rs
use Rattle.c_meaning.specs.PieceRuns.Values.{Store}
use Rattle.c_meaning.specs.PieceRuns.Pieces.{Frame, Way, on, left}
use Rattle.c_meaning.specs.PieceRuns.Pieces as pm
use Rattle.c_expand.specs.Expressions.{Callee}
use Rattle.c_expand.specs.Statements.{statements, result_variable}
use Rattle.c_expand.specs.Expansion.{end_of, run_through}
use Rattle.expand_runs.specs.Reading.{UnaryFits, BinaryFits, IsTyped}
use Rattle.expand_runs.specs.Growing.{IsWithin}
use Rattle.expand_runs.specs.Showing.{Known, IsShown}
use Rattle.expand_runs.specs.Calling.{CallsSame}
use Rattle.expand_runs.proofs.FineExpressions.{CalleesKeep}
use Rattle.expand_runs.proofs.Rows.{run_of, going_on, rows_same}
use Rattle.expand_runs.proofs.Sames.{goes_same, then_same, same_as, same_more, pass_less, pass_same, fails_any}
use Rattle.expanded_programs.specs.Statements.Ending.{Ends}
use Rattle.expanded_programs.specs.Statements.Results.{HasResult}
use Rattle.expanded_programs.specs.Statements.Scopes.{Setting, Reach, Among, enter, behind_all, objects_in}
use Rattle.expand_runs.specs.Counting.{CalleesCount}
use Rattle.expanded_programs.specs.Statements.Frames.{HomesIn, LivesIn, IsFrame, IsScene, Relates, seen_all}
use Rattle.expanded_programs.proofs.StatementsLemmas.LoopParts.{mark_first}
use Rattle.expanded_programs.proofs.StatementsLemmas.Moving.{shown_less, relates_entered, new_reachable, scene_enter}
use Rattle.expanded_programs.proofs.StatementsLemmas.Scenes.{seen_cell}
use Rattle.expanded_programs.proofs.StatementsLemmas.StatementParts.{end_point, scene_made}
use Rattle.expanded_programs.proofs.StatementsLemmas.Statements.{statements_same}
use Rattle.expanded_programs.specs.Calls.Programs.{at_start, IsFunctionSound}
use Rattle.expanded_programs.proofs.Calls.Returning.{Comes, GivesResult, EndsWell, statements_come}
use Rattle.expanded_programs.proofs.Calls.Starting.{nothing_seen}

-- What holds of each value that the first part ends with holds beside what relates both.
comes_same : {T A B : Type 0} (k : ℕ) (R : A → Cells → B → T → Type 0) (P : A → Type 0) (q : Ran Cells A) (r : Ran T B) → Comes P q.outcome → Same false k R q r → Same false k (λ v s w t. R v s w t × P v) q r
comes_same {T} {A} {B} k R P q r h same = comes_at q.trace q.outcome h same
  where
    comes_at : (trace : List Point) (o : Steps.Outcome Cells A) → Comes P o → Follows false k R trace o r → Follows false k (λ v s w t. R v s w t × P v) trace o r
    comes_at trace (Steps.went v s n) p h = (h.0, h.1, h.2, h.3, (h.4, p))
    comes_at trace (Steps.undefined rule at) p h = h
    comes_at trace Steps.waiting p h = h

-- Behind a call: control goes on; what was shown before it is shown still; and a number that is used is in the variable of the result.
pub record IsLeft (f : Frame) (c : Call) (S : Setting) (Homes0 : Spot → Home → Type 0) (Lives0 : Spot → Type 0) (kinds : Known) (used : Bool) (v : Option ℤ) (s : Cells) (w : Way) (t : Store) : Type 0 where
  pub on_ : w ≡ on
  pub shown : IsShown f Homes0 Lives0 kinds s t
  pub typed : IsTyped f t
  pub gives : used ≡ true → GivesResult S.result v
  pub number : (x : ℤ) → v ≡ Some x → t.variables (result_variable c.result).0 ≡ x

module _ (unary_fits : UnaryFits) (binary_fits : BinaryFits) (f : Frame) (k : ℕ) (here : Here) (c : Call) (S : Setting) (Homes0 : Spot → Home → Type 0) (Lives0 : Spot → Type 0) (kinds : Known) (fresh_ base : ℕ) (frame : IsFrame f here c S Homes0 Lives0 kinds fresh_ base) (cc : CoreCalls) (g : Callee) (callees : (r : Reach) → CalleesKeep f (objects_in S r) g c) (calls : (r : Reach) (seen : ℕ → Option ArrayId) (st : State) → IsScene f c S Homes0 base r seen st → CallsSame k f here c (objects_in S r) (HomesIn here c Homes0 Lives0 seen) (LivesIn here c Homes0 Lives0 r) kinds base (length st.arrays) (seen_cell seen) cc g) (counts : CalleesCount g c) (fn : CoreFunctionTree) (is_result : S.result ≡ fn.result) (used : Bool) where
  abbrev pub L : Option ℤ → Cells → Way → Store → Type 0
  L = IsLeft f c S Homes0 Lives0 kinds used

  abbrev Q : Option ℤ → Cells → Store → Type 0
  Q = HasResult f c Homes0 Lives0 kinds

  -- ---- the end

  -- the point behind the call
  end_point_passed : (v : Option ℤ) (s : Cells) (t : Store) (n : ℕ) → n ≤ k → L v s on t → Same false k L (rs.function_end fn v here s n) (pm.behind (point_at point.End fn.at here) t n)
  end_point_passed v s t n le h =
      then_same k (λ u s1 w1 t1. L v s1 on t1) L (pass (point_at point.End fn.at here) s n) (pass (point_at point.End fn.at here) t n) (λ p s1 n1. goes v s1 n1) (λ u t1 n1. goes on t1 n1)
      (pass_same k (λ u s1 w1 t1. L v s1 on t1) (point_at point.End fn.at here) s t n le h) (λ u s1 w1 t1 n1 le1 h1. goes_same k L v s1 on t1 n1 le1 h1)

  -- a body's end where control comes to it by itself
  end_reached : (b : Bool) (t : Store) (n : ℕ) → run_of f (end_of b c.call (point_in c point.End fn.at) ∷ []) t n ≡ pm.behind (point_in c point.End fn.at) t n
  end_reached true t n = one_behind n
    where
      one_behind : (n : ℕ) → Steps.then_ (pm.behind (point_in c point.End fn.at) t n) (λ w t1 n1. going_on f [] w t1 n1) ≡ pm.behind (point_in c point.End fn.at) t n
      one_behind zero = refl
      one_behind (suc m) = refl
  end_reached false t n = one_behind n
    where
      one_behind : (n : ℕ) → Steps.then_ (pm.behind (point_in c point.End fn.at) t n) (λ w t1 n1. going_on f [] w t1 n1) ≡ pm.behind (point_in c point.End fn.at) t n
      one_behind zero = refl
      one_behind (suc m) = refl

  -- and where a return leaves to it
  end_landed : (b : Bool) (t : Store) (n : ℕ) → b ≡ true → going_on f (end_of b c.call (point_in c point.End fn.at) ∷ []) (left c.call) t n ≡ pm.behind (point_in c point.End fn.at) t n
  end_landed false t n e = absurd (true≢false (sym e))
  end_landed true t n e =
      ap (λ b. if b then Steps.then_ (pm.behind (point_in c point.End fn.at) t n) (λ w t1 n1. run_of f [] t1 n1) else goes (left c.call) t n) (eq-eqb c.call.0 c.call.0 refl) ∙ one_behind n
    where
      one_behind : (n : ℕ) → Steps.then_ (pm.behind (point_in c point.End fn.at) t n) (λ w t1 n1. run_of f [] t1 n1) ≡ pm.behind (point_in c point.End fn.at) t n
      one_behind zero = refl
      one_behind (suc m) = refl

  abbrev Done : (Cells → Store → Type 0) → Bool → Completion → Cells → Way → Store → Type 0
  Done I lv x s w t = Ends I (λ s1 t1. ⊥) (λ s1 t1. ⊥) Q c.call true lv x s w t × EndsWell S.result x

  passes : (b : Bool) (v : Option ℤ) (s : Cells) (w : Way) (t : Store) (n : ℕ) → n ≤ k → L v s on t → going_on f (end_of b c.call (point_in c point.End fn.at) ∷ []) w t n ≡ pm.behind (point_in c point.End fn.at) t n
      → Same false k L (rs.function_end fn v here s n) (going_on f (end_of b c.call (point_in c point.End fn.at) ∷ []) w t n)
  passes b v s w t n le h e =
      same_as k L (rs.function_end fn v here s n) (pm.behind (point_at point.End fn.at here) t n) (going_on f (end_of b c.call (point_in c point.End fn.at) ∷ []) w t n)
      (e ∙ ap (λ p. pm.behind p t n) (end_point unary_fits binary_fits f k here c S Homes0 Lives0 kinds fresh_ base frame cc g callees calls point.End fn.at)) (end_point_passed v s t n le h)

  -- a body that ends without a return
  falls : (b : Bool) (I : Cells → Store → Type 0) (s : Cells) (w : Way) (t : Store) (n : ℕ) → n ≤ k → ((s1 : Cells) (t1 : Store) → I s1 t1 → IsShown f Homes0 Lives0 kinds s1 t1 × IsTyped f t1) → (w ≡ on) × I s t → (u : Bool) (r : Option CType) → u ≡ used → r ≡ fn.result
      → Same false k L (if u && is_some r then fails ub.NoReturn fn.at else rs.function_end fn None here s n) (going_on f (end_of b c.call (point_in c point.End fn.at) ∷ []) w t n)
  falls b I s w t n le outer h true (Some kd) is_used is = fails_any {S = Cells} {A = Option ℤ} k L ub.NoReturn fn.at _
  falls b I s w t n le outer h true None is_used is =
      let o = outer s t h.1 in
      passes b None s w t n le (record { on_ = refl; shown = o.0; typed = o.1; gives = λ e. subst (λ z. GivesResult z None) (is ∙ sym is_result) refl; number = λ x e. absurd (none-some x e) }) (ap (λ z. going_on f (end_of b c.call (point_in c point.End fn.at) ∷ []) z t n) h.0 ∙ end_reached b t n)
  falls b I s w t n le outer h false r is_used is =
      let o = outer s t h.1 in
      passes b None s w t n le (record { on_ = refl; shown = o.0; typed = o.1; gives = λ e. absurd (true≢false (sym e ∙ sym is_used)); number = λ x e. absurd (none-some x e) }) (ap (λ z. going_on f (end_of b c.call (point_in c point.End fn.at) ∷ []) z t n) h.0 ∙ end_reached b t n)

  left_same : (b : Bool) (I : Cells → Store → Type 0) (x : Completion) (s : Cells) (w : Way) (t : Store) (n : ℕ) → n ≤ k → ((s1 : Cells) (t1 : Store) → I s1 t1 → IsShown f Homes0 Lives0 kinds s1 t1 × IsTyped f t1) → Done I b x s w t
      → Same false k L (rs.function_left used fn x here s n) (going_on f (end_of b c.call (point_in c point.End fn.at) ∷ []) w t n)
  left_same b I end.Normal s w t n le outer h = falls b I s w t n le outer h.0 used fn.result refl refl
  left_same b I end.Broke s w t n le outer h = absurd h.0.1
  left_same b I end.Continued s w t n le outer h = absurd h.0.1
  left_same b I (end.Returned v true) s w t n le outer h =
      let q = h.0.2 in
      passes b v s w t n le (record { on_ = refl; shown = q.shown; typed = q.typed; gives = λ e. h.1; number = q.number }) (ap (λ z. going_on f (end_of b c.call (point_in c point.End fn.at) ∷ []) z t n) h.0.0 ∙ end_reached b t n)
  left_same b I (end.Returned v false) s w t n le outer h =
      let q = h.0.2 in
      passes b v s w t n le (record { on_ = refl; shown = q.shown; typed = q.typed; gives = λ e. h.1; number = q.number }) (ap (λ z. going_on f (end_of b c.call (point_in c point.End fn.at) ∷ []) z t n) h.0.0 ∙ end_landed b t n h.0.1)

  -- ---- the body

  -- A body does what its pieces do, and may pass one point more than the calls in it.
  pub body_same : (st : State) → IsFunctionSound S fn → IsScene f c S Homes0 base (at_start S) nothing_seen st → IsWithin (run_through g c fn st).state f → (s : Cells) (t : Store) (n : ℕ) → n ≤ suc k → Relates f here c Homes0 Lives0 kinds (at_start S) nothing_seen s t
      → Same false (suc k) L (rs.body cc used fn here s n) (run_of f (run_through g c fn st).pieces t n)
  unfolding then_ emit
  body_same st sound scene within s t n le rel =
      let st1 = record st { made = st.made + 1 } in
      let xs = statements g c fn.body true st1 in
      let b = any_leaves fn.body true in
      let end_ = end_of b c.call (point_in c point.End fn.at) in
      let r1 = enter fn.outermost (at_start S) in
      let r2 = behind_all fn.body r1 in
      let seen2 = seen_all g c fn.body true st1 nothing_seen in
      let I2 = Relates f here c Homes0 Lives0 kinds r2 seen2 in
      let D = Done I2 b in
      let scene1 = scene_enter f here c S Homes0 Lives0 kinds fresh_ base frame fn.outermost (at_start S) nothing_seen st1 (scene_made unary_fits binary_fits f k here c S Homes0 Lives0 kinds fresh_ base frame cc g callees calls (st.made + 1) (at_start S) nothing_seen st scene) in
      let within1 : IsWithin xs.state f = record { variables = within.variables; arrays = within.arrays } in
      let begin_ = point_at point.Begin fn.at here in
      let rest = λ (s1 : Cells) (n1 : ℕ). Steps.then_ (ks.statements cc true fn.body here (entered here fn.outermost s1) n1) (λ x s2 n2. rs.function_left used fn x here s2 n2) in
      subst (λ p. Same false (suc k) L (rs.body cc used fn here s n) (run_of f (tree.mark p ∷ (xs.pieces ++ (end_ ∷ []))) t n)) (sym (end_point unary_fits binary_fits f k here c S Homes0 Lives0 kinds fresh_ base frame cc g callees calls point.Begin fn.at))
      (same_as (suc k) L (rs.body cc used fn here s n) (Steps.then_ (pass begin_ t n) (λ u t1 n1. run_of f (xs.pieces ++ (end_ ∷ [])) t1 n1)) (run_of f (tree.mark begin_ ∷ (xs.pieces ++ (end_ ∷ []))) t n) (mark_first f begin_ (xs.pieces ++ (end_ ∷ [])) t n)
      (same_more k (suc k) L L (rs.body cc used fn here s n) (Steps.then_ (pass begin_ t n) (λ u t1 n1. run_of f (xs.pieces ++ (end_ ∷ [])) t1 n1)) (omega arith) (λ v s1 w t1 a. a)
      (then_same k (λ u s1 w t1. Relates f here c Homes0 Lives0 kinds (at_start S) nothing_seen s1 t1) L (pass begin_ s n) (pass begin_ t n) (λ u s1 n1. rest s1 n1) (λ u t1 n1. run_of f (xs.pieces ++ (end_ ∷ [])) t1 n1)
      (pass_less k (λ u s1 w t1. Relates f here c Homes0 Lives0 kinds (at_start S) nothing_seen s1 t1) begin_ s t n le rel)
      (λ u s1 w t1 n1 le1 rel1.
      rows_same f k D L xs.pieces (end_ ∷ []) (ks.statements cc true fn.body here (entered here fn.outermost s1) n1) (λ x s2 n2. rs.function_left used fn x here s2 n2) t1 n1
      (comes_same k (Ends I2 (λ s3 t3. ⊥) (λ s3 t3. ⊥) Q c.call true b) (EndsWell S.result) (ks.statements cc true fn.body here (entered here fn.outermost s1) n1) (run_of f xs.pieces t1 n1)
      (statements_come S cc here fn.body true r1 (λ i. Among fn.outermost i) false false false sound.body (entered here fn.outermost s1) n1)
      (statements_same unary_fits binary_fits f k here c S Homes0 Lives0 kinds fresh_ base frame cc g callees calls counts true fn.body r1 nothing_seen (λ i. Among fn.outermost i) false false false sound.body st1 scene1 within1 (λ s3 t3. ⊥) (λ s3 t3. ⊥)
      (λ e. absurd (true≢false (sym e))) (λ e. absurd (true≢false (sym e))) (entered here fn.outermost s1) t1 n1 le1
      (relates_entered f here c S Homes0 Lives0 kinds fresh_ base frame fn.outermost (at_start S) nothing_seen st1 s1 t1 (scene_made unary_fits binary_fits f k here c S Homes0 Lives0 kinds fresh_ base frame cc g callees calls (st.made + 1) (at_start S) nothing_seen st scene)
      (new_reachable f here c S Homes0 Lives0 kinds fresh_ base frame fn.outermost (at_start S) sound.outermost) rel1)))
      (λ x s2 w2 t2 n2 le2 d. left_same b I2 x s2 w2 t2 n2 le2
      (λ s3 t3 i. (shown_less f Homes0 (HomesIn here c Homes0 Lives0 seen2) Lives0 (LivesIn here c Homes0 Lives0 r2) kinds s3 t3 (λ y h a l. inl a) (λ y l. inl l) i.0, i.1)) d)))))
