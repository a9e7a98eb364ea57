-- Statements do what their pieces do, where calls of functions do.
use Rattle.std.proofs.Common.{◌≡◌, ℕ, ◌≤◌, inl, inr, ◌∙◌, sym, refl, ap, subst, ℤ, pos, Bool, true, false, ◌&&◌, ◌||◌, List, [], ◌∷◌, ◌++◌, length, slice_get, Option, Some, None, le_refl, arith, if◌then◌else◌}
use Rattle.std.specs.Prelude.{◌+◌, not, suc, drop}
use Rattle.std.proofs.lemmas.Bool.{false≢true, cases_Bool}
use Rattle.std.proofs.lemmas.List.{append-nil, append_assoc, drop-append-le}
use Rattle.std.proofs.Math.Seq.{drop-append-add}
use Rattle.hls_base.specs.declared.number.ArrayId.{ArrayId}
use Rattle.hls_base.specs.declared.point.PointKind.TheVariants as point
use Rattle.c_meaning.specs.declared.value.Completion.TheVariants as end
use Rattle.pieces.specs.Resolved.Core as core
use Rattle.pieces.specs.Resolved.Core.{CoreTree, CoreActionTree, CoreStmtTree, CoreStmtTrees, CoreElseTree}
use Rattle.piece_making.specs.Making.{State, then_, emit, inside, inside_switch, label, next_loop, gives}
use Rattle.piece_making.specs.Calls.{Call, point_in}
use Rattle.piece_making.specs.Leaving.{leaves, any_leaves, is_empty}
use Rattle.pieces.specs.Trees as tree
use Rattle.pieces.specs.Trees.{PureTree, PieceTree, piece_row}
use Rattle.hls_base.specs.Steps as Steps
use Rattle.hls_base.specs.Steps.{Ran, goes, reached}
use Rattle.hls_base.specs.Same.{Same}
use Rattle.c_meaning.specs.CoreRuns.Cells.{Spot, Cells, Here, entered}
use Rattle.c_meaning.specs.CoreRuns.Expressions as ce
use Rattle.c_meaning.specs.CoreRuns.Expressions.{CoreCalls, point_at}
use Rattle.c_meaning.specs.CoreRuns.Statements as ks
use Rattle.c_meaning.specs.PieceRuns.Values.{Store, value, with_variable}
use Rattle.c_meaning.specs.PieceRuns.Pieces.{Frame, Way, on, left, behind_loop, test_first, test_last, kind_in}
use Rattle.c_meaning.specs.PieceRuns.Pieces as pm
use Rattle.c_expand.specs.Expressions.{Callee, expression}
use Rattle.c_expand.specs.Statements.{tested, stepped, actions, declare, repeat, returned, result_variable, statement, statements}
use Rattle.expanded_programs.specs.Statements.Ending.{Ends, Turns}
use Rattle.expanded_programs.specs.Statements.Results.{HasResult}
use Rattle.expanded_programs.specs.Statements.Scopes.{Setting, Reach, Among, enter, behind, behind_all, objects_in, IsSoundIn, TestSound, ReturnSound, ActionsSound, StmtSound, StmtsSound, BeginsLoop, reach}
use Rattle.expanded_programs.specs.Statements.Frames.{IsFrame, IsScene, Relates, HomesIn, LivesIn, seen_behind, seen_all, made_for, with_seen}
use Rattle.expand_runs.proofs.Rows.{run_of}
use Rattle.expand_runs.proofs.Evaluating.{on_same, goes_first}
use Rattle.expand_runs.proofs.Sames.{goes_same, same_more, same_as, then_then}
use Rattle.expanded_programs.proofs.StatementsLemmas.Controls.{loop_same, sequence_same}
use Rattle.expand_runs.proofs.Rows.{one_piece}
use Rattle.expanded_programs.proofs.StatementsLemmas.LoopParts.{mark_reached, tested_same, untested_same, body_same, no_step_same, step_same, first_same, last_same}
use Rattle.expanded_programs.proofs.StatementsLemmas.Actions.{HasValue, evaluated, expression_later, actions_same, actions_grown}
use Rattle.expanded_programs.proofs.StatementsLemmas.Moving.{relates_inner, relates_entered, new_reachable, scene_enter, scene_grown, scene_later, in_enter, shown_less}
use Rattle.expanded_programs.proofs.StatementsLemmas.Declarations.{declare_same}
use Rattle.expanded_programs.proofs.StatementsLemmas.Labels.{first_target, first_here, first_behind, front_counted, no_front}
use Rattle.expanded_programs.proofs.StatementsLemmas.Switches.{StartsAt, JumpsTo, out_of, skip_behind, switch_same}
use Rattle.expand_runs.specs.Counting.{CalleesCount}
use Rattle.expanded_programs.proofs.StatementsLemmas.StatementParts.{LeadsTo, leads_here, leads_within, leads_enter, leads_behind, inner_all, among_new, Kept, keeps_stmt, keeps_stmts, kept_seen, scene_made, end_point, going_normal, if_parts, as_gives, ends_more, empty_last, and_first, and_second, lands_pass, inner_behind, keeps_loop_of}
use Rattle.expand_runs.proofs.Typing.{converted_number, number_here, number_other, typed_set}
use Rattle.expand_runs.proofs.Growing.{grown_later, later_same, within_grown}
use Rattle.expand_runs.proofs.Showing.{shown_apart}
use Rattle.expand_runs.specs.Reading.{BinaryFits, IsNumber, UnaryFits}
use Rattle.expand_runs.specs.Calling.{CallsSame}
use Rattle.expand_runs.specs.Growing.{IsGrown, IsLater, IsWithin}
use Rattle.c_meaning.specs.declared.value.Completion.{Completion}
use Rattle.expand_runs.proofs.Going.{Goes, goes_set}
use Rattle.expand_runs.specs.Showing.{Known}
use Rattle.expanded_programs.proofs.StatementsLemmas.Scenes.{seen_cell}
use Rattle.hls_base.specs.declared.place.Place.{Place}
use Rattle.piece_making.specs.declared.frame.Home.{Home}
use Rattle.hls_base.specs.declared.number.VarId.{VarId}
use Rattle.c_meaning.specs.declared.value.Round.{Round}
use Rattle.std.proofs.lemmas.Option.{same_Some, none-some}
use Rattle.c_token.specs.declared.ctype.CType.{CType}
use Rattle.expand_runs.proofs.FineExpressions.{CalleesKeep}
use Rattle.c_meaning.specs.CoreRuns.Statements.{loop, has_label, any_label}
use Rattle.piece_making.specs.Assigning.{one}
use Rattle.hls_base.specs.Valued.{is}
use Rattle.c_value.specs.Values.{convert}
use Rattle.hls_base.specs.declared.number.LoopId.{LoopId}
use Rattle.expand_runs.proofs.Reading.{or_left, or_right}

module _ (unary_fits : UnaryFits) (binary_fits : BinaryFits) (f : Frame) (k : ℕ) (here : Here) (c : Call) (S : Setting) (Homes0 : Spot → Home → Type 0) (Lives0 : Spot → Type 0) (kinds : Known) (fresh_ base : ℕ) (frame : IsFrame f here c S Homes0 Lives0 kinds fresh_ base) (cc : CoreCalls) (g : Callee) (callees : (r : Reach) → CalleesKeep f (objects_in S r) g c) (calls : (r : Reach) (seen : ℕ → Option ArrayId) (st : State) → IsScene f c S Homes0 base r seen st → CallsSame k f here c (objects_in S r) (HomesIn here c Homes0 Lives0 seen) (LivesIn here c Homes0 Lives0 r) kinds base (length st.arrays) (seen_cell seen) cc g) (counts : CalleesCount g c) where
  abbrev I : Reach → (ℕ → Option ArrayId) → Cells → Store → Type 0
  I = Relates f here c Homes0 Lives0 kinds

  abbrev Q : Option ℤ → Cells → Store → Type 0
  Q = HasResult f c Homes0 Lives0 kinds

  abbrev E : Reach → (ℕ → Option ArrayId) → (Cells → Store → Type 0) → (Cells → Store → Type 0) → Bool → Bool → Completion → Cells → Way → Store → Type 0
  E r seen B C tail lv = Ends (I r seen) B C Q c.call tail lv

  -- ---- loops

  -- the round of a loop, where the loop is
  loop_at : (r : Reach) (seen : ℕ → Option ArrayId) (B C : Cells → Store → Type 0) (tail lv post : Bool) (id : LoopId) (before : List PieceTree) (x : PureTree) (main last : List PieceTree) (at : Place) (round_ : Cells → ℕ → Ran Cells Round)
      → ((s : Cells) (t : Store) (n : ℕ) → n ≤ k → I r seen s t → Same false k (Turns (I r seen) Q c.call lv) (round_ s n)
      ((if post then pm.test_last f (λ t1 n1. run_of f before t1 n1) x (λ t1 n1. run_of f main t1 n1) else pm.test_first f (λ t1 n1. run_of f before t1 n1) x (λ t1 n1. run_of f main t1 n1) (λ t1 n1. run_of f last t1 n1)) t n))
      → (s : Cells) (t : Store) (n : ℕ) → n ≤ k → I r seen s t
      → Same false k (E r seen B C tail lv) (ks.loop at here round_ s n) (run_of f (tree.repeat_ id post (piece_row before) x (piece_row main) (piece_row last) (point_in c point.End at) ∷ []) t n)
  loop_at r seen B C tail lv post id before x main last at round_ h s t n le rel =
      let round' = if post then pm.test_last f (λ t1 n1. run_of f before t1 n1) x (λ t1 n1. run_of f main t1 n1) else pm.test_first f (λ t1 n1. run_of f before t1 n1) x (λ t1 n1. run_of f main t1 n1) (λ t1 n1. run_of f last t1 n1) in
      subst (λ e. Same false k (E r seen B C tail lv) (ks.loop at here round_ s n) (run_of f (tree.repeat_ id post (piece_row before) x (piece_row main) (piece_row last) e ∷ []) t n)) (sym (end_point unary_fits binary_fits f k here c S Homes0 Lives0 kinds fresh_ base frame cc g callees calls point.End at))
      (same_as k (E r seen B C tail lv) (ks.loop at here round_ s n) (Steps.then_ (pm.repeat n round' t n) (λ w t1 n1. behind_loop w (point_at point.End at here) t1 n1)) _
      (one_piece f (tree.repeat_ id post (piece_row before) x (piece_row main) (piece_row last) (point_at point.End at here)) t n)
      (same_more k k (E r seen B C false lv) (E r seen B C tail lv) (ks.loop at here round_ s n) (Steps.then_ (pm.repeat n round' t n) (λ w t1 n1. behind_loop w (point_at point.End at here) t1 n1)) (le_refl k)
      (λ z s1 w t1 a. ends_more (I r seen) (I r seen) B B C C Q c.call false tail lv lv (λ s t h. h) (λ s t h. h) (λ s t h. h) (λ e. absurd (false≢true e)) (λ e. e) z s1 w t1 a)
      (loop_same f k (I r seen) B C Q c.call lv at here round_ round' h s t n le rel)))

  one_is : (t : Store) → value f.arrays one t ≡ is (pos 1)
  one_is t = refl

  test_part : (test : Option CoreTree) (r : Reach) (seen : ℕ → Option ArrayId) (st : State) (at : Place) → IsScene f c S Homes0 base r seen st → TestSound S r test → IsWithin (tested g c test st).state f → (s : Cells) (t : Store) (n : ℕ) → n ≤ k → I r seen s t
      → Same false k (λ (b : Bool) s1 (b' : Bool) t1. (b ≡ b') × I r seen s1 t1) (ks.tested cc test at here s n) (pm.tested f (λ t1 n1. run_of f (tree.mark (point_in c point.Test at) ∷ (tested g c test st).pieces) t1 n1) (tested g c test st).value t n)
  test_part None r seen st at scene sound within s t n le rel =
      subst (λ p. Same false k (λ (b : Bool) s1 (b' : Bool) t1. (b ≡ b') × I r seen s1 t1) (ks.tested cc None at here s n) (pm.tested f (λ t1 n1. run_of f (tree.mark p ∷ []) t1 n1) one t n)) (sym (end_point unary_fits binary_fits f k here c S Homes0 Lives0 kinds fresh_ base frame cc g callees calls point.Test at))
      (untested_same f k (I r seen) Q c.call (point_at point.Test at here) one one_is s t n le rel)
  test_part (Some e) r seen st at scene sound within s t n le rel =
      let x = expression g c e st in
      subst (λ p. Same false k (λ (b : Bool) s1 (b' : Bool) t1. (b ≡ b') × I r seen s1 t1) (ks.tested cc (Some e) at here s n) (pm.tested f (λ t1 n1. run_of f (tree.mark p ∷ x.pieces) t1 n1) x.value t n)) (sym (end_point unary_fits binary_fits f k here c S Homes0 Lives0 kinds fresh_ base frame cc g callees calls point.Test at))
      (tested_same f k (I r seen) Q c.call (point_at point.Test at here) x.value x.pieces (ce.expression cc true e here)
      (λ s1 t1 n1 le1 rel1. as_gives unary_fits binary_fits f k here c S Homes0 Lives0 kinds fresh_ base frame cc g callees calls r seen e x.value x.pieces s1 t1 n1 (evaluated unary_fits binary_fits f k here c S Homes0 Lives0 kinds fresh_ base frame cc g callees calls true e r seen st scene sound within s1 t1 n1 le1 rel1)) s t n le rel)

  test_grown : (test : Option CoreTree) (r : Reach) (seen : ℕ → Option ArrayId) (st : State) → IsScene f c S Homes0 base r seen st → IsLater st (tested g c test st).state
  test_grown None r seen st scene = later_same st
  test_grown (Some e) r seen st scene = expression_later unary_fits binary_fits f k here c S Homes0 Lives0 kinds fresh_ base frame cc g callees calls r seen st scene e

  step_part : (steps : List CoreActionTree) (r : Reach) (seen : ℕ → Option ArrayId) (st : State) (at : Place) (lv : Bool) → IsScene f c S Homes0 base r seen st → ActionsSound S r steps → IsWithin (stepped g c steps at st).state f → (s : Cells) (t : Store) (n : ℕ) → n ≤ k → I r seen s t
      → Same false k (Turns (I r seen) Q c.call lv) (ks.run_step cc steps at here s n) (pm.turned (λ t1 n1. run_of f (stepped g c steps at st).pieces t1 n1) t n)
  unfolding stepped then_ emit
  step_part [] r seen st at lv scene sound within s t n le rel = no_step_same f k (I r seen) Q c.call lv s t n le rel
  step_part (a ∷ rest) r seen st at lv scene sound within s t n le rel =
      let st1 = record st { made = st.made + 1 } in
      let y = actions g c (a ∷ rest) st1 in
      subst (λ p. Same false k (Turns (I r seen) Q c.call lv) (ks.run_step cc (a ∷ rest) at here s n) (pm.turned (λ t1 n1. run_of f (tree.mark p ∷ y.pieces) t1 n1) t n)) (sym (end_point unary_fits binary_fits f k here c S Homes0 Lives0 kinds fresh_ base frame cc g callees calls point.Step at))
      (step_same f k (I r seen) Q c.call lv (point_at point.Step at here) (ks.act_all cc (a ∷ rest) here) y.pieces
      (λ s1 t1 n1 le1 rel1. actions_same unary_fits binary_fits f k here c S Homes0 Lives0 kinds fresh_ base frame cc g callees calls (a ∷ rest) r seen st1 (scene_made unary_fits binary_fits f k here c S Homes0 Lives0 kinds fresh_ base frame cc g callees calls (st.made + 1) r seen st scene) sound within s1 t1 n1 le1 rel1) s t n le rel)

  step_grown : (steps : List CoreActionTree) (r : Reach) (at : Place) (st : State) → IsGrown (λ i. Unit {0}) st (stepped g c steps at st).state
  unfolding stepped then_ emit
  step_grown [] r at st = grown_later (λ i. Unit {0}) st st (later_same st)
  step_grown (a ∷ rest) r at st =
      let q = actions_grown unary_fits binary_fits f k here c S Homes0 Lives0 kinds fresh_ base frame cc g callees calls (a ∷ rest) r (record st { made = st.made + 1 }) in
      record { variables = q.variables; more = q.more; arrays = q.arrays; more_arrays = q.more_arrays; slots = q.slots; more_slots = q.more_slots; calls = q.calls }

  -- ---- returns

  -- the result is set
  result_at : (e : CoreTree) (r : Reach) (seen : ℕ → Option ArrayId) (x : PureTree) → (kd : CType) × (S.result ≡ Some kd) → (y : ℤ) (s : Cells) (t : Store) → I r seen s t → value f.arrays x t ≡ is y
      → (t1 : Store) × Goes f (tree.set (result_variable c.result) x ∷ []) t t1 × Q (Some (ks.converted_result here.result y)) s t1
  result_at e r seen x result y s t rel there =
      let w = frame.set result.0 result.1 in
      let own = w.0 in
      let is_result : ks.converted_result here.result y ≡ convert result.0 y = ap (λ z. ks.converted_result z y) (frame.result ∙ result.1) in
      let name : result_variable c.result ≡ own = ap result_variable w.1 in
      let u = convert result.0 y in
      let t1 = with_variable own.0 u t in
      let shown0 = shown_less f Homes0 (HomesIn here c Homes0 Lives0 seen) Lives0 (LivesIn here c Homes0 Lives0 r) kinds s t (λ z g a l. inl a) (λ z l. inl l) rel.0 in
      let ge = w.2 in (
        t1,
        λ m. ap (λ (z : VarId). run_of f (tree.set z x ∷ []) t m) name ∙ goes_set f own.0 x t y there m ∙ ap (λ z. goes on (with_variable own.0 (convert z y) t) m) w.4,
        record {
          shown = shown_apart f Homes0 Lives0 kinds fresh_ s t t1 frame.below (λ i lt. number_other t.variables own.0 i u (λ q. omega (arith, lt, ge, q))) (λ a i. refl) shown0;
          typed = typed_set f t own.0 u rel.1 (subst (λ z. IsNumber z u) (sym w.4) (converted_number result.0 y));
          number = λ z e1. ap (λ (i : VarId). t1.variables i.0) name ∙ number_here t.variables own.0 u ∙ sym is_result ∙ same_Some (ks.converted_result here.result y) z e1;
        },
      )

  return_same : (value_ : Option CoreTree) (tail : Bool) (r : Reach) (seen : ℕ → Option ArrayId) (st : State) (B C : Cells → Store → Type 0) → IsScene f c S Homes0 base r seen st → ReturnSound S r value_ → IsWithin (returned g c value_ tail st).state f → (s : Cells) (t : Store) (n : ℕ) → n ≤ k → I r seen s t
      → Same false k (E r seen B C tail (not tail)) (Steps.then_ (ks.returned_number cc value_ here s n) (λ v1 s1 n1. goes (end.Returned v1 tail) s1 n1)) (run_of f (returned g c value_ tail st).pieces t n)
  unfolding then_ emit
  return_same None tail r seen st B C scene sound within s t n le rel = left_at tail (HasNone rel)
    where
      HasNone : I r seen s t → Q None s t
      HasNone h = record { shown = shown_less f Homes0 (HomesIn here c Homes0 Lives0 seen) Lives0 (LivesIn here c Homes0 Lives0 r) kinds s t (λ x g a l. inl a) (λ x l. inl l) h.0; typed = h.1; number = λ x e. absurd (none-some x e) }

      left_at : (tail : Bool) → Q None s t → Same false k (E r seen B C tail (not tail)) (goes (end.Returned None tail) s n) (run_of f (if tail then gives tt st else emit (tree.leave c.call) st).pieces t n)
      left_at true q = goes_same k (E r seen B C true false) (end.Returned None true) s on t n le (refl, refl, q)
      left_at false q = goes_same k (E r seen B C false true) (end.Returned None false) s (left c.call) t n le (refl, refl, q)
  return_same (Some e) true r seen st B C scene sound within s t n le rel =
      let x = expression g c e st in
      let within_x : IsWithin x.state f = record { variables = within.variables; arrays = within.arrays } in
      let Z = E r seen B C true false in
      subst (λ q. Same false k Z q (run_of f ((x.pieces ++ (tree.set (result_variable c.result) x.value ∷ [])) ++ []) t n)) (sym (then_then (ce.expression cc true e here s n) (λ y s1 n1. goes (Some (ks.converted_result here.result y)) s1 n1) (λ v1 s1 n1. goes (end.Returned v1 true) s1 n1)))
      (subst (λ zs. Same false k Z (Steps.then_ (ce.expression cc true e here s n) (λ y s1 n1. goes (end.Returned (Some (ks.converted_result here.result y)) true) s1 n1)) (run_of f zs t n)) (sym (append-nil (x.pieces ++ (tree.set (result_variable c.result) x.value ∷ []))))
      (on_same f k (HasValue unary_fits binary_fits f k here c S Homes0 Lives0 kinds fresh_ base frame cc g callees calls true e x.value r seen) Z x.pieces (tree.set (result_variable c.result) x.value ∷ []) (ce.expression cc true e here s n) (λ y s1 n1. goes (end.Returned (Some (ks.converted_result here.result y)) true) s1 n1) t n
      (evaluated unary_fits binary_fits f k here c S Homes0 Lives0 kinds fresh_ base frame cc g callees calls true e r seen st scene sound.1 within_x s t n le rel) (λ y s1 w t1 a. a.on_)
      (λ y s1 w t1 n1 le1 a.
      let q = result_at e r seen x.value sound.0 y s1 t1 a.relates (a.value tt).0 in
      same_as k Z (goes (end.Returned (Some (ks.converted_result here.result y)) true) s1 n1) (goes on q.0 n1) (run_of f (tree.set (result_variable c.result) x.value ∷ []) t1 n1) (q.1 n1) (goes_same k Z (end.Returned (Some (ks.converted_result here.result y)) true) s1 on q.0 n1 le1 (refl, refl, q.2)))))
  return_same (Some e) false r seen st B C scene sound within s t n le rel =
      let x = expression g c e st in
      let within_x : IsWithin x.state f = record { variables = within.variables; arrays = within.arrays } in
      let Z = E r seen B C false true in
      let set_ = tree.set (result_variable c.result) x.value in
      subst (λ q. Same false k Z q (run_of f ((x.pieces ++ (set_ ∷ [])) ++ (tree.leave c.call ∷ [])) t n)) (sym (then_then (ce.expression cc true e here s n) (λ y s1 n1. goes (Some (ks.converted_result here.result y)) s1 n1) (λ v1 s1 n1. goes (end.Returned v1 false) s1 n1)))
      (subst (λ zs. Same false k Z (Steps.then_ (ce.expression cc true e here s n) (λ y s1 n1. goes (end.Returned (Some (ks.converted_result here.result y)) false) s1 n1)) (run_of f zs t n)) (sym (append_assoc x.pieces (set_ ∷ []) (tree.leave c.call ∷ [])))
      (on_same f k (HasValue unary_fits binary_fits f k here c S Homes0 Lives0 kinds fresh_ base frame cc g callees calls true e x.value r seen) Z x.pieces ((set_ ∷ []) ++ (tree.leave c.call ∷ [])) (ce.expression cc true e here s n) (λ y s1 n1. goes (end.Returned (Some (ks.converted_result here.result y)) false) s1 n1) t n
      (evaluated unary_fits binary_fits f k here c S Homes0 Lives0 kinds fresh_ base frame cc g callees calls true e r seen st scene sound.1 within_x s t n le rel) (λ y s1 w t1 a. a.on_)
      (λ y s1 w t1 n1 le1 a.
      let q = result_at e r seen x.value sound.0 y s1 t1 a.relates (a.value tt).0 in
      goes_first f k Z (set_ ∷ []) (tree.leave c.call ∷ []) (goes (end.Returned (Some (ks.converted_result here.result y)) false) s1 n1) t1 q.0 n1 q.1
      (goes_same k Z (end.Returned (Some (ks.converted_result here.result y)) false) s1 (left c.call) q.0 n1 le1 (refl, refl, q.2)))))

  -- ---- statements

  -- the statement does what its pieces do, wherever it stands
  abbrev Runs : Bool → CoreStmtTree → Reach → (ℕ → Option ArrayId) → (ℕ → Type 0) → Bool → Bool → State → Type 1
  Runs tail b r seen Own breaks continues st =
      (B C : Cells → Store → Type 0) → (breaks ≡ true → LeadsTo unary_fits binary_fits f k here c S Homes0 Lives0 kinds fresh_ base frame cc g callees calls r seen Own B) → (continues ≡ true → LeadsTo unary_fits binary_fits f k here c S Homes0 Lives0 kinds fresh_ base frame cc g callees calls r seen Own C) → (s : Cells) (t : Store) (n : ℕ) → n ≤ k → I r seen s t
      → Same false k (E (behind b r) (seen_behind c b st seen) B C tail (leaves b tail)) (ks.statement cc tail b here s n) (run_of f (statement g c b tail st).pieces t n)

  lower : (P : ℕ → Type 0) (st st' : State) → IsGrown P st st' → IsWithin st' f → IsWithin st f
  lower P st st' grown within = within_grown P st st' f grown within

  -- The rounds of a loop whose test comes first.
  for_rounds : (test : Option CoreTree) (body : CoreStmtTree) (steps : List CoreActionTree) (at : Place) (r : Reach) (seen : ℕ → Option ArrayId) (B C : Cells → Store → Type 0) (tail : Bool) (st : State) → TestSound S r test → ActionsSound S r steps → StmtSound S r (λ i. ⊥) false true true body
      → IsScene f c S Homes0 base r seen st → IsWithin (repeat g c false test (statement g c body false) steps at st).state f
      → ((st1 : State) → IsScene f c S Homes0 base r seen st1 → IsWithin (statement g c body false st1).state f → (s1 : Cells) (t1 : Store) (n1 : ℕ) → n1 ≤ k → I r seen s1 t1
      → Same false k (E r seen (I r seen) (I r seen) false (leaves body false)) (ks.statement cc false body here s1 n1) (run_of f (statement g c body false st1).pieces t1 n1))
      → (s : Cells) (t : Store) (n : ℕ) → n ≤ k → I r seen s t
      → Same false k (E r seen B C tail (leaves body false)) (ks.loop at here (ks.test_first cc test (ks.statement cc false body here) steps at here) s n) (run_of f (repeat g c false test (statement g c body false) steps at st).pieces t n)
  unfolding then_ emit inside next_loop
  for_rounds test body steps at r seen B C tail st test_sound step_sound body_sound scene within h s t n le rel =
      let s1 = record st { loops = st.loops + 1 } in
      let sb = record s1 { made = 1 } in
      let x = tested g c test sb in
      let s2 = record x.state { made = s1.made } in
      let sm = record s2 { made = 1 } in
      let y = statement g c body false sm in
      let s3 = record y.state { made = s2.made } in
      let sl = record s3 { made = 0 } in
      let z = stepped g c steps at sl in
      let scene_b = scene_made unary_fits binary_fits f k here c S Homes0 Lives0 kinds fresh_ base frame cc g callees calls 1 r seen st scene in
      let scene_b' : IsScene f c S Homes0 base r seen sb = record { low = scene.low; called = scene.called; slots = scene.slots; noted = scene.noted; arrays = scene.arrays; seen_low = scene.seen_low; seen_apart = scene.seen_apart; seen_own = scene.seen_own; seen_fits = scene.seen_fits; ready = scene.ready; unready = scene.unready } in
      let later_x = test_grown test r seen sb scene_b' in
      let scene_m = scene_made unary_fits binary_fits f k here c S Homes0 Lives0 kinds fresh_ base frame cc g callees calls 1 r seen x.state (scene_later f here c S Homes0 Lives0 kinds fresh_ base frame r seen sb x.state later_x scene_b') in
      let kept = keeps_stmt unary_fits binary_fits f k here c S Homes0 Lives0 kinds fresh_ base frame cc g callees calls body r (λ i. ⊥) false true true false sm body_sound in
      let scene_l = scene_made unary_fits binary_fits f k here c S Homes0 Lives0 kinds fresh_ base frame cc g callees calls 0 r seen y.state (scene_grown f here c S Homes0 Lives0 kinds fresh_ base frame (Kept unary_fits binary_fits f k here c S Homes0 Lives0 kinds fresh_ base frame cc g callees calls r) r seen sm y.state (kept_seen unary_fits binary_fits f k here c S Homes0 Lives0 kinds fresh_ base frame cc g callees calls r seen sm scene_m) kept.grown scene_m) in
      let within_z : IsWithin z.state f = record { variables = within.variables; arrays = within.arrays } in
      let within_l = lower (λ i. Unit {0}) sl z.state (step_grown steps r at sl) within_z in
      let within_y : IsWithin y.state f = record { variables = within_l.variables; arrays = within_l.arrays } in
      let within_m = lower (Kept unary_fits binary_fits f k here c S Homes0 Lives0 kinds fresh_ base frame cc g callees calls r) sm y.state kept.grown within_y in
      let within_x : IsWithin x.state f = record { variables = within_m.variables; arrays = within_m.arrays } in
      let lv = leaves body false in
      loop_at r seen B C tail lv false (next_loop st).value (tree.mark (point_in c point.Test at) ∷ x.pieces) x.value (tree.mark (point_in c point.Body at) ∷ y.pieces) z.pieces at (ks.test_first cc test (ks.statement cc false body here) steps at here)
      (λ s4 t4 n4 le4 rel4.
      first_same f k (I r seen) Q c.call lv (ks.tested cc test at here) (ks.run_body (ks.statement cc false body here) at here) (ks.run_step cc steps at here) x.value (λ t1 n1. run_of f (tree.mark (point_in c point.Test at) ∷ x.pieces) t1 n1)
      (λ t1 n1. run_of f (tree.mark (point_in c point.Body at) ∷ y.pieces) t1 n1) (λ t1 n1. run_of f z.pieces t1 n1)
      (λ s5 t5 n5 le5 rel5. test_part test r seen sb at scene_b' test_sound within_x s5 t5 n5 le5 rel5)
      (λ s5 t5 n5 le5 rel5.
      subst (λ p. Same false k (Turns (I r seen) Q c.call lv) (ks.run_body (ks.statement cc false body here) at here s5 n5) (pm.turned (λ t1 n1. run_of f (tree.mark p ∷ y.pieces) t1 n1) t5 n5)) (sym (end_point unary_fits binary_fits f k here c S Homes0 Lives0 kinds fresh_ base frame cc g callees calls point.Body at))
      (body_same f k (I r seen) Q c.call lv (point_at point.Body at here) (ks.statement cc false body here) y.pieces (λ s6 t6 n6 le6 rel6. h sm scene_m within_y s6 t6 n6 le6 rel6) s5 t5 n5 le5 rel5))
      (λ s5 t5 n5 le5 rel5. step_part steps r seen sl at lv scene_l step_sound within_z s5 t5 n5 le5 rel5)
      s4 t4 n4 le4 rel4) s t n le rel

  do_rounds : (test : CoreTree) (body : CoreStmtTree) (at : Place) (r : Reach) (seen : ℕ → Option ArrayId) (B C : Cells → Store → Type 0) (tail : Bool) (st : State) → IsSoundIn S r test → StmtSound S r (λ i. ⊥) false true true body
      → IsScene f c S Homes0 base r seen st → IsWithin (repeat g c true (Some test) (statement g c body false) [] at st).state f
      → ((st1 : State) → IsScene f c S Homes0 base r seen st1 → IsWithin (statement g c body false st1).state f → (s1 : Cells) (t1 : Store) (n1 : ℕ) → n1 ≤ k → I r seen s1 t1
      → Same false k (E r seen (I r seen) (I r seen) false (leaves body false)) (ks.statement cc false body here s1 n1) (run_of f (statement g c body false st1).pieces t1 n1))
      → (s : Cells) (t : Store) (n : ℕ) → n ≤ k → I r seen s t
      → Same false k (E r seen B C tail (leaves body false)) (ks.loop at here (ks.test_last cc test (ks.statement cc false body here) at here) s n) (run_of f (repeat g c true (Some test) (statement g c body false) [] at st).pieces t n)
  unfolding then_ emit inside next_loop stepped
  do_rounds test body at r seen B C tail st test_sound body_sound scene within h s t n le rel =
      let s1 = record st { loops = st.loops + 1 } in
      let sb = record s1 { made = 1 } in
      let x = expression g c test sb in
      let s2 = record x.state { made = s1.made } in
      let sm = record s2 { made = 1 } in
      let y = statement g c body false sm in
      let scene_b' : IsScene f c S Homes0 base r seen sb = record { low = scene.low; called = scene.called; slots = scene.slots; noted = scene.noted; arrays = scene.arrays; seen_low = scene.seen_low; seen_apart = scene.seen_apart; seen_own = scene.seen_own; seen_fits = scene.seen_fits; ready = scene.ready; unready = scene.unready } in
      let later_x = expression_later unary_fits binary_fits f k here c S Homes0 Lives0 kinds fresh_ base frame cc g callees calls r seen sb scene_b' test in
      let scene_m = scene_made unary_fits binary_fits f k here c S Homes0 Lives0 kinds fresh_ base frame cc g callees calls 1 r seen x.state (scene_later f here c S Homes0 Lives0 kinds fresh_ base frame r seen sb x.state later_x scene_b') in
      let kept = keeps_stmt unary_fits binary_fits f k here c S Homes0 Lives0 kinds fresh_ base frame cc g callees calls body r (λ i. ⊥) false true true false sm body_sound in
      let within_y : IsWithin y.state f = record { variables = within.variables; arrays = within.arrays } in
      let within_m = lower (Kept unary_fits binary_fits f k here c S Homes0 Lives0 kinds fresh_ base frame cc g callees calls r) sm y.state kept.grown within_y in
      let within_x : IsWithin x.state f = record { variables = within_m.variables; arrays = within_m.arrays } in
      let lv = leaves body false in
      loop_at r seen B C tail lv true (next_loop st).value (tree.mark (point_in c point.Test at) ∷ x.pieces) x.value (tree.mark (point_in c point.Body at) ∷ y.pieces) [] at (ks.test_last cc test (ks.statement cc false body here) at here)
      (λ s4 t4 n4 le4 rel4.
      last_same f k (I r seen) Q c.call lv (ks.tested cc (Some test) at here) (ks.run_body (ks.statement cc false body here) at here) x.value (λ t1 n1. run_of f (tree.mark (point_in c point.Test at) ∷ x.pieces) t1 n1)
      (λ t1 n1. run_of f (tree.mark (point_in c point.Body at) ∷ y.pieces) t1 n1)
      (λ s5 t5 n5 le5 rel5. test_part (Some test) r seen sb at scene_b' test_sound within_x s5 t5 n5 le5 rel5)
      (λ s5 t5 n5 le5 rel5.
      subst (λ p. Same false k (Turns (I r seen) Q c.call lv) (ks.run_body (ks.statement cc false body here) at here s5 n5) (pm.turned (λ t1 n1. run_of f (tree.mark p ∷ y.pieces) t1 n1) t5 n5)) (sym (end_point unary_fits binary_fits f k here c S Homes0 Lives0 kinds fresh_ base frame cc g callees calls point.Body at))
      (body_same f k (I r seen) Q c.call lv (point_at point.Body at here) (ks.statement cc false body here) y.pieces (λ s6 t6 n6 le6 rel6. h sm scene_m within_y s6 t6 n6 le6 rel6) s5 t5 n5 le5 rel5))
      s4 t4 n4 le4 rel4) s t n le rel

  -- a loop keeps slots too
  repeat_grown : (test : Option CoreTree) (body : CoreStmtTree) (steps : List CoreActionTree) (at : Place) (r : Reach) (st : State) → StmtSound S r (λ i. ⊥) false true true body → IsGrown (Kept unary_fits binary_fits f k here c S Homes0 Lives0 kinds fresh_ base frame cc g callees calls r) st (repeat g c false test (statement g c body false) steps at st).state
  repeat_grown test body steps at r st sound = (keeps_loop_of unary_fits binary_fits f k here c S Homes0 Lives0 kinds fresh_ base frame cc g callees calls test body steps at r st sound).grown

  -- The declarations and expressions at the head of a loop.
  begins_same : (init : CoreStmtTrees) (r : Reach) (seen : ℕ → Option ArrayId) (Own : ℕ → Type 0) (st : State) → BeginsLoop init → StmtsSound S r Own false false false init → IsScene f c S Homes0 base r seen st → IsWithin (statements g c init false st).state f
      → IsScene f c S Homes0 base (behind_all init r) (seen_all g c init false st seen) (statements g c init false st).state
      × ((s : Cells) (t : Store) (n : ℕ) → n ≤ k → I r seen s t → Same false k (λ (x : Completion) s1 w t1. (x ≡ end.Normal) × (w ≡ on) × I (behind_all init r) (seen_all g c init false st seen) s1 t1) (ks.statements cc false init here s n) (run_of f (statements g c init false st).pieces t n))
  unfolding then_
  begins_same core.no_stmt r seen Own st begins sound scene within = (scene, λ s t n le rel. goes_same k (λ (x : Completion) s1 w t1. (x ≡ end.Normal) × (w ≡ on) × I r seen s1 t1) end.Normal s on t n le (refl, refl, rel))
  begins_same (core.more_stmts (core.declare object init) rest) r seen Own st begins sound scene within =
      let x = declare g c object init st in
      let y = statements g c rest false x.state in
      let kept = keeps_stmts unary_fits binary_fits f k here c S Homes0 Lives0 kinds fresh_ base frame cc g callees calls rest (behind (core.declare object init) r) Own false false false false x.state sound.1 in
      let within_x = lower (Kept unary_fits binary_fits f k here c S Homes0 Lives0 kinds fresh_ base frame cc g callees calls (behind (core.declare object init) r)) x.state y.state kept.grown within in
      let d = declare_same unary_fits binary_fits f k here c S Homes0 Lives0 kinds fresh_ base frame cc g callees calls object init r seen Own false false false st sound.0 scene within_x in
      let seen1 = with_seen seen object (made_for (slice_get c.homes object) st) in
      let q = begins_same rest (reach object r) seen1 Own x.state begins.1 sound.1 d.scene within in
      let R = λ (z : Completion) (s1 : Cells) (w : Way) (t1 : Store). (z ≡ end.Normal) × (w ≡ on) × I (behind_all rest (reach object r)) (seen_all g c rest false x.state seen1) s1 t1 in (
        q.0,
        λ s t n le rel.
            subst (λ p. Same false k R p (run_of f (x.pieces ++ y.pieces) t n)) (sym (then_then (ks.declare cc (here.spots object) (ks.kind_in (slice_get here.objects object)) init here s n) (λ u s1 n1. goes end.Normal s1 n1) (λ z s1 n1. ks.go_on z (ks.statements cc false rest here) s1 n1)))
            (on_same f k (λ (u : Unit {0}) s1 w t1. (w ≡ on) × I (reach object r) seen1 s1 t1) R x.pieces y.pieces (ks.declare cc (here.spots object) (ks.kind_in (slice_get here.objects object)) init here s n) (λ u s1 n1. ks.statements cc false rest here s1 n1) t n (d.same s t n le rel) (λ u s1 w t1 a. a.0)
            (λ u s1 w t1 n1 le1 a. q.1 s1 t1 n1 le1 a.1)),
      )
  begins_same (core.more_stmts (core.act list) rest) r seen Own st begins sound scene within =
      let x = actions g c list st in
      let y = statements g c rest false x.state in
      let kept = keeps_stmts unary_fits binary_fits f k here c S Homes0 Lives0 kinds fresh_ base frame cc g callees calls rest r Own false false false false x.state sound.1 in
      let within_x = lower (Kept unary_fits binary_fits f k here c S Homes0 Lives0 kinds fresh_ base frame cc g callees calls r) x.state y.state kept.grown within in
      let scene1 = scene_grown f here c S Homes0 Lives0 kinds fresh_ base frame (λ i. Unit {0}) r seen st x.state (λ i slot a e z. tt) (actions_grown unary_fits binary_fits f k here c S Homes0 Lives0 kinds fresh_ base frame cc g callees calls list r st) scene in
      let q = begins_same rest r seen Own x.state begins.1 sound.1 scene1 within in
      let R = λ (z : Completion) (s1 : Cells) (w : Way) (t1 : Store). (z ≡ end.Normal) × (w ≡ on) × I (behind_all rest r) (seen_all g c rest false x.state seen) s1 t1 in (
        q.0,
        λ s t n le rel.
            subst (λ p. Same false k R p (run_of f (x.pieces ++ y.pieces) t n)) (sym (then_then (ks.act_all cc list here s n) (λ u s1 n1. goes end.Normal s1 n1) (λ z s1 n1. ks.go_on z (ks.statements cc false rest here) s1 n1)))
            (on_same f k (λ (u : Unit {0}) s1 w t1. (w ≡ on) × I r seen s1 t1) R x.pieces y.pieces (ks.act_all cc list here s n) (λ u s1 n1. ks.statements cc false rest here s1 n1) t n (actions_same unary_fits binary_fits f k here c S Homes0 Lives0 kinds fresh_ base frame cc g callees calls list r seen st scene sound.0 within_x s t n le rel) (λ u s1 w t1 a. a.0)
            (λ u s1 w t1 n1 le1 a. q.1 s1 t1 n1 le1 a.1)),
      )
  begins_same (core.more_stmts (core.block objects body) rest) r seen Own st begins sound scene within = absurd begins.0
  begins_same (core.more_stmts (core.if_ test body other at) rest) r seen Own st begins sound scene within = absurd begins.0
  begins_same (core.more_stmts (core.switch_ test objects body at) rest) r seen Own st begins sound scene within = absurd begins.0
  begins_same (core.more_stmts (core.case_ value_ body at) rest) r seen Own st begins sound scene within = absurd begins.0
  begins_same (core.more_stmts (core.while_ test body at) rest) r seen Own st begins sound scene within = absurd begins.0
  begins_same (core.more_stmts (core.do_ body test at) rest) r seen Own st begins sound scene within = absurd begins.0
  begins_same (core.more_stmts (core.for_ objects init test step body at) rest) r seen Own st begins sound scene within = absurd begins.0
  begins_same (core.more_stmts core.break_ rest) r seen Own st begins sound scene within = absurd begins.0
  begins_same (core.more_stmts core.continue_ rest) r seen Own st begins sound scene within = absurd begins.0
  begins_same (core.more_stmts (core.return_ value_) rest) r seen Own st begins sound scene within = absurd begins.0

  -- behind a statement the text goes on
  scene_behind : (b : CoreStmtTree) (r : Reach) (seen : ℕ → Option ArrayId) (Own : ℕ → Type 0) (labels breaks continues tail : Bool) (st : State) → StmtSound S r Own labels breaks continues b → IsScene f c S Homes0 base r seen st → IsWithin (statement g c b tail st).state f
      → IsScene f c S Homes0 base (behind b r) (seen_behind c b st seen) (statement g c b tail st).state
  scene_behind (core.declare object init) r seen Own labels breaks continues tail st sound scene within = (declare_same unary_fits binary_fits f k here c S Homes0 Lives0 kinds fresh_ base frame cc g callees calls object init r seen Own labels breaks continues st sound scene within).scene
  scene_behind (core.block objects body) r seen Own labels breaks continues tail st sound scene within = scene_grown f here c S Homes0 Lives0 kinds fresh_ base frame (Kept unary_fits binary_fits f k here c S Homes0 Lives0 kinds fresh_ base frame cc g callees calls r) r seen st _ (kept_seen unary_fits binary_fits f k here c S Homes0 Lives0 kinds fresh_ base frame cc g callees calls r seen st scene) (keeps_stmt unary_fits binary_fits f k here c S Homes0 Lives0 kinds fresh_ base frame cc g callees calls (core.block objects body) r Own labels breaks continues tail st sound).grown scene
  scene_behind (core.act list) r seen Own labels breaks continues tail st sound scene within = scene_grown f here c S Homes0 Lives0 kinds fresh_ base frame (Kept unary_fits binary_fits f k here c S Homes0 Lives0 kinds fresh_ base frame cc g callees calls r) r seen st _ (kept_seen unary_fits binary_fits f k here c S Homes0 Lives0 kinds fresh_ base frame cc g callees calls r seen st scene) (keeps_stmt unary_fits binary_fits f k here c S Homes0 Lives0 kinds fresh_ base frame cc g callees calls (core.act list) r Own labels breaks continues tail st sound).grown scene
  scene_behind (core.if_ test body other at) r seen Own labels breaks continues tail st sound scene within = scene_grown f here c S Homes0 Lives0 kinds fresh_ base frame (Kept unary_fits binary_fits f k here c S Homes0 Lives0 kinds fresh_ base frame cc g callees calls r) r seen st _ (kept_seen unary_fits binary_fits f k here c S Homes0 Lives0 kinds fresh_ base frame cc g callees calls r seen st scene) (keeps_stmt unary_fits binary_fits f k here c S Homes0 Lives0 kinds fresh_ base frame cc g callees calls (core.if_ test body other at) r Own labels breaks continues tail st sound).grown scene
  scene_behind (core.switch_ test objects body at) r seen Own labels breaks continues tail st sound scene within = scene_grown f here c S Homes0 Lives0 kinds fresh_ base frame (Kept unary_fits binary_fits f k here c S Homes0 Lives0 kinds fresh_ base frame cc g callees calls r) r seen st _ (kept_seen unary_fits binary_fits f k here c S Homes0 Lives0 kinds fresh_ base frame cc g callees calls r seen st scene) (keeps_stmt unary_fits binary_fits f k here c S Homes0 Lives0 kinds fresh_ base frame cc g callees calls (core.switch_ test objects body at) r Own labels breaks continues tail st sound).grown scene
  scene_behind (core.case_ value_ body at) r seen Own labels breaks continues tail st sound scene within = scene_grown f here c S Homes0 Lives0 kinds fresh_ base frame (Kept unary_fits binary_fits f k here c S Homes0 Lives0 kinds fresh_ base frame cc g callees calls r) r seen st _ (kept_seen unary_fits binary_fits f k here c S Homes0 Lives0 kinds fresh_ base frame cc g callees calls r seen st scene) (keeps_stmt unary_fits binary_fits f k here c S Homes0 Lives0 kinds fresh_ base frame cc g callees calls (core.case_ value_ body at) r Own labels breaks continues tail st sound).grown scene
  scene_behind (core.while_ test body at) r seen Own labels breaks continues tail st sound scene within = scene_grown f here c S Homes0 Lives0 kinds fresh_ base frame (Kept unary_fits binary_fits f k here c S Homes0 Lives0 kinds fresh_ base frame cc g callees calls r) r seen st _ (kept_seen unary_fits binary_fits f k here c S Homes0 Lives0 kinds fresh_ base frame cc g callees calls r seen st scene) (keeps_stmt unary_fits binary_fits f k here c S Homes0 Lives0 kinds fresh_ base frame cc g callees calls (core.while_ test body at) r Own labels breaks continues tail st sound).grown scene
  scene_behind (core.do_ body test at) r seen Own labels breaks continues tail st sound scene within = scene_grown f here c S Homes0 Lives0 kinds fresh_ base frame (Kept unary_fits binary_fits f k here c S Homes0 Lives0 kinds fresh_ base frame cc g callees calls r) r seen st _ (kept_seen unary_fits binary_fits f k here c S Homes0 Lives0 kinds fresh_ base frame cc g callees calls r seen st scene) (keeps_stmt unary_fits binary_fits f k here c S Homes0 Lives0 kinds fresh_ base frame cc g callees calls (core.do_ body test at) r Own labels breaks continues tail st sound).grown scene
  scene_behind (core.for_ objects init test step body at) r seen Own labels breaks continues tail st sound scene within = scene_grown f here c S Homes0 Lives0 kinds fresh_ base frame (Kept unary_fits binary_fits f k here c S Homes0 Lives0 kinds fresh_ base frame cc g callees calls r) r seen st _ (kept_seen unary_fits binary_fits f k here c S Homes0 Lives0 kinds fresh_ base frame cc g callees calls r seen st scene) (keeps_stmt unary_fits binary_fits f k here c S Homes0 Lives0 kinds fresh_ base frame cc g callees calls (core.for_ objects init test step body at) r Own labels breaks continues tail st sound).grown scene
  scene_behind core.break_ r seen Own labels breaks continues tail st sound scene within = scene_grown f here c S Homes0 Lives0 kinds fresh_ base frame (Kept unary_fits binary_fits f k here c S Homes0 Lives0 kinds fresh_ base frame cc g callees calls r) r seen st _ (kept_seen unary_fits binary_fits f k here c S Homes0 Lives0 kinds fresh_ base frame cc g callees calls r seen st scene) (keeps_stmt unary_fits binary_fits f k here c S Homes0 Lives0 kinds fresh_ base frame cc g callees calls core.break_ r Own labels breaks continues tail st sound).grown scene
  scene_behind core.continue_ r seen Own labels breaks continues tail st sound scene within = scene_grown f here c S Homes0 Lives0 kinds fresh_ base frame (Kept unary_fits binary_fits f k here c S Homes0 Lives0 kinds fresh_ base frame cc g callees calls r) r seen st _ (kept_seen unary_fits binary_fits f k here c S Homes0 Lives0 kinds fresh_ base frame cc g callees calls r seen st scene) (keeps_stmt unary_fits binary_fits f k here c S Homes0 Lives0 kinds fresh_ base frame cc g callees calls core.continue_ r Own labels breaks continues tail st sound).grown scene
  scene_behind (core.return_ value_) r seen Own labels breaks continues tail st sound scene within = scene_grown f here c S Homes0 Lives0 kinds fresh_ base frame (Kept unary_fits binary_fits f k here c S Homes0 Lives0 kinds fresh_ base frame cc g callees calls r) r seen st _ (kept_seen unary_fits binary_fits f k here c S Homes0 Lives0 kinds fresh_ base frame cc g callees calls r seen st scene) (keeps_stmt unary_fits binary_fits f k here c S Homes0 Lives0 kinds fresh_ base frame cc g callees calls (core.return_ value_) r Own labels breaks continues tail st sound).grown scene

  nothing_behind : (rest : CoreStmtTrees) (tail : Bool) (st : State) → is_empty rest ≡ true → (statements g c rest tail st).pieces ≡ []
  nothing_behind core.no_stmt tail st e = refl
  nothing_behind (core.more_stmts first rest) tail st e = absurd (false≢true e)

  in_arm : (tail : Bool) (body : CoreStmtTree) (r : Reach) (seen : ℕ → Option ArrayId) (labels breaks continues : Bool) → StmtSound S r (λ i. ⊥) labels breaks continues body → (st : State)
      → (B C : Cells → Store → Type 0) → (breaks ≡ true → LeadsTo unary_fits binary_fits f k here c S Homes0 Lives0 kinds fresh_ base frame cc g callees calls r seen (λ i. ⊥) B) → (continues ≡ true → LeadsTo unary_fits binary_fits f k here c S Homes0 Lives0 kinds fresh_ base frame cc g callees calls r seen (λ i. ⊥) C) → (at : Place) (lv : Bool) → (leaves body tail ≡ true → lv ≡ true) → Runs tail body r seen (λ i. ⊥) breaks continues st → (s : Cells) (t : Store) (n : ℕ) → n ≤ k → I r seen s t
      → Same false k (E r seen B C tail lv) (ks.arm at here (ks.statement cc tail body here) s n) (run_of f (tree.mark (point_in c point.Arm at) ∷ (statement g c body tail st).pieces) t n)
  in_arm tail body r seen labels breaks continues sound st B C toB toC at lv more h s t n le rel =
      let y = statement g c body tail st in
      let r2 = behind body r in
      let seen2 = seen_behind c body st seen in
      subst (λ p. Same false k (E r seen B C tail lv) (ks.arm at here (ks.statement cc tail body here) s n) (run_of f (tree.mark p ∷ y.pieces) t n)) (sym (end_point unary_fits binary_fits f k here c S Homes0 Lives0 kinds fresh_ base frame cc g callees calls point.Arm at))
      (mark_reached f k (I r seen) (E r seen B C tail lv) (point_at point.Arm at here) (ks.statement cc tail body here) y.pieces s t n le rel
      (λ s1 t1 n1 le1 rel1.
      same_more k k (E r2 seen2 B C tail (leaves body tail)) (E r seen B C tail lv) (ks.statement cc tail body here s1 n1) (run_of f y.pieces t1 n1) (le_refl k)
      (λ z s2 w t2 a. ends_more (I r2 seen2) (I r seen) B B C C Q c.call tail tail (leaves body tail) lv
      (λ s3 t3 h. relates_inner f here c S Homes0 Lives0 kinds fresh_ base frame r2 r seen2 seen s3 t3 (inner_behind unary_fits binary_fits f k here c S Homes0 Lives0 kinds fresh_ base frame cc g callees calls body r seen (λ i. ⊥) labels breaks continues st r seen sound (λ i o l. o) (record { lives = λ i l. l; same = λ i l. refl })) h) (λ s3 t3 h. h) (λ s3 t3 h. h) (λ e. e) more z s2 w t2 a)
      (h B C toB toC s1 t1 n1 le1 rel1)))

  in_loop : (body : CoreStmtTree) (r : Reach) (seen : ℕ → Option ArrayId) → StmtSound S r (λ i. ⊥) false true true body → (st : State) → Runs false body r seen (λ i. ⊥) true true st → (s : Cells) (t : Store) (n : ℕ) → n ≤ k → I r seen s t
      → Same false k (E r seen (I r seen) (I r seen) false (leaves body false)) (ks.statement cc false body here s n) (run_of f (statement g c body false st).pieces t n)
  in_loop body r seen sound st h s t n le rel =
      let y = statement g c body false st in
      let r2 = behind body r in
      let seen2 = seen_behind c body st seen in
      let B = I r seen in
      same_more k k (E r2 seen2 B B false (leaves body false)) (E r seen B B false (leaves body false)) (ks.statement cc false body here s n) (run_of f y.pieces t n) (le_refl k)
      (λ z s2 w t2 a. ends_more (I r2 seen2) (I r seen) B B B B Q c.call false false (leaves body false) (leaves body false)
      (λ s3 t3 h. relates_inner f here c S Homes0 Lives0 kinds fresh_ base frame r2 r seen2 seen s3 t3 (inner_behind unary_fits binary_fits f k here c S Homes0 Lives0 kinds fresh_ base frame cc g callees calls body r seen (λ i. ⊥) false true true st r seen sound (λ i o l. o) (record { lives = λ i l. l; same = λ i l. refl })) h) (λ s3 t3 h. h) (λ s3 t3 h. h) (λ e. e) (λ e. e) z s2 w t2 a)
      (h B B (λ e. leads_here unary_fits binary_fits f k here c S Homes0 Lives0 kinds fresh_ base frame cc g callees calls r seen) (λ e. leads_here unary_fits binary_fits f k here c S Homes0 Lives0 kinds fresh_ base frame cc g callees calls r seen) s t n le rel)

  mutual
    unfolding then_ emit inside inside_switch label

    pub statement_same : (tail : Bool) (b : CoreStmtTree) → (r : Reach) (seen : ℕ → Option ArrayId) (Own : ℕ → Type 0) (labels breaks continues : Bool) → StmtSound S r Own labels breaks continues b → (st : State) → IsScene f c S Homes0 base r seen st → IsWithin (statement g c b tail st).state f
        → Runs tail b r seen Own breaks continues st
    statement_same tail (core.block objects body) r seen Own labels breaks continues sound st scene within B C toB toC s t n le rel =
        let r1 = enter objects r in
        let lv = any_leaves body tail in
        let r2 = behind_all body r1 in
        let seen2 = seen_all g c body tail st seen in
        let rel1 = relates_entered f here c S Homes0 Lives0 kinds fresh_ base frame objects r seen st s t scene (new_reachable f here c S Homes0 Lives0 kinds fresh_ base frame objects r sound.0) rel in
        same_more k k (E r2 seen2 B C tail lv) (E r seen B C tail lv) (ks.statements cc tail body here (entered here objects s) n) (run_of f (statements g c body tail st).pieces t n) (le_refl k)
        (λ z s1 w t1 a. ends_more (I r2 seen2) (I r seen) B B C C Q c.call tail tail lv lv
        (λ s3 t3 h. relates_inner f here c S Homes0 Lives0 kinds fresh_ base frame r2 r seen2 seen s3 t3 (inner_all unary_fits binary_fits f k here c S Homes0 Lives0 kinds fresh_ base frame cc g callees calls body r1 seen (λ i. Among objects i) false breaks continues tail st r seen sound.1 (λ i m l. among_new unary_fits binary_fits f k here c S Homes0 Lives0 kinds fresh_ base frame cc g callees calls objects r i sound.0 m l) (in_enter f here c S Homes0 Lives0 kinds fresh_ base frame objects r seen)) h) (λ s3 t3 h. h) (λ s3 t3 h. h) (λ e. e) (λ e. e) z s1 w t1 a)
        (statements_same tail body r1 seen (λ i. Among objects i) false breaks continues sound.1 st (scene_enter f here c S Homes0 Lives0 kinds fresh_ base frame objects r seen st scene) within B C (λ e. leads_enter unary_fits binary_fits f k here c S Homes0 Lives0 kinds fresh_ base frame cc g callees calls objects r seen Own B sound.0 (toB e)) (λ e. leads_enter unary_fits binary_fits f k here c S Homes0 Lives0 kinds fresh_ base frame cc g callees calls objects r seen Own C sound.0 (toC e)) (entered here objects s) t n le rel1)
    statement_same tail (core.declare object init) r seen Own labels breaks continues sound st scene within B C toB toC s t n le rel =
        let d = declare_same unary_fits binary_fits f k here c S Homes0 Lives0 kinds fresh_ base frame cc g callees calls object init r seen Own labels breaks continues st sound scene within in
        going_normal unary_fits binary_fits f k here c S Homes0 Lives0 kinds fresh_ base frame cc g callees calls (reach object r) (with_seen seen object (made_for (slice_get c.homes object) st)) B C tail false (ks.declare cc (here.spots object) (ks.kind_in (slice_get here.objects object)) init here s n) (declare g c object init st).pieces t n (d.same s t n le rel)
    statement_same tail (core.act list) r seen Own labels breaks continues sound st scene within B C toB toC s t n le rel =
        going_normal unary_fits binary_fits f k here c S Homes0 Lives0 kinds fresh_ base frame cc g callees calls r seen B C tail false (ks.act_all cc list here s n) (actions g c list st).pieces t n (actions_same unary_fits binary_fits f k here c S Homes0 Lives0 kinds fresh_ base frame cc g callees calls list r seen st scene sound within s t n le rel)
    statement_same tail (core.if_ test body core.no_else at) r seen Own labels breaks continues sound st scene within B C toB toC s t n le rel =
        let x = expression g c test st in
        let sl = record x.state { made = 1 } in
        let y = statement g c body tail sl in
        let lv = leaves body tail || false in
        let scene_l = scene_made unary_fits binary_fits f k here c S Homes0 Lives0 kinds fresh_ base frame cc g callees calls 1 r seen x.state (scene_later f here c S Homes0 Lives0 kinds fresh_ base frame r seen st x.state (expression_later unary_fits binary_fits f k here c S Homes0 Lives0 kinds fresh_ base frame cc g callees calls r seen st scene test) scene) in
        let kept = keeps_stmt unary_fits binary_fits f k here c S Homes0 Lives0 kinds fresh_ base frame cc g callees calls body r (λ i. ⊥) false breaks continues tail sl sound.1 in
        let within_y : IsWithin y.state f = record { variables = within.variables; arrays = within.arrays } in
        let within_l = lower (Kept unary_fits binary_fits f k here c S Homes0 Lives0 kinds fresh_ base frame cc g callees calls r) sl y.state kept.grown within_y in
        let within_x : IsWithin x.state f = record { variables = within_l.variables; arrays = within_l.arrays } in
        if_parts unary_fits binary_fits f k here c S Homes0 Lives0 kinds fresh_ base frame cc g callees calls r seen B C tail lv test x.value x.pieces (tree.mark (point_in c point.Arm at) ∷ y.pieces) [] at (ks.arm at here (ks.statement cc tail body here)) (λ s1 n1. goes end.Normal s1 n1) s t n
        (evaluated unary_fits binary_fits f k here c S Homes0 Lives0 kinds fresh_ base frame cc g callees calls true test r seen st scene sound.0 within_x s t n le rel)
        (λ s1 t1 n1 le1 rel1. in_arm tail body r seen false breaks continues sound.1 sl B C (λ e. leads_within unary_fits binary_fits f k here c S Homes0 Lives0 kinds fresh_ base frame cc g callees calls r seen Own B (toB e)) (λ e. leads_within unary_fits binary_fits f k here c S Homes0 Lives0 kinds fresh_ base frame cc g callees calls r seen Own C (toC e)) at lv (λ e. or_left (leaves body tail) false e) (statement_same tail body r seen (λ i. ⊥) false breaks continues sound.1 sl scene_l within_y) s1 t1 n1 le1 rel1)
        (λ s1 t1 n1 le1 rel1. goes_same k (E r seen B C tail lv) end.Normal s1 on t1 n1 le1 (refl, rel1))
    statement_same tail (core.if_ test body (core.else_ colon other) at) r seen Own labels breaks continues sound st scene within B C toB toC s t n le rel =
        let x = expression g c test st in
        let sl = record x.state { made = 1 } in
        let y = statement g c body tail sl in
        let sr = record y.state { made = 1 } in
        let z = statement g c other tail sr in
        let lv = leaves body tail || leaves other tail in
        let scene_l = scene_made unary_fits binary_fits f k here c S Homes0 Lives0 kinds fresh_ base frame cc g callees calls 1 r seen x.state (scene_later f here c S Homes0 Lives0 kinds fresh_ base frame r seen st x.state (expression_later unary_fits binary_fits f k here c S Homes0 Lives0 kinds fresh_ base frame cc g callees calls r seen st scene test) scene) in
        let kept = keeps_stmt unary_fits binary_fits f k here c S Homes0 Lives0 kinds fresh_ base frame cc g callees calls body r (λ i. ⊥) false breaks continues tail sl sound.1 in
        let scene_r = scene_made unary_fits binary_fits f k here c S Homes0 Lives0 kinds fresh_ base frame cc g callees calls 1 r seen y.state (scene_grown f here c S Homes0 Lives0 kinds fresh_ base frame (Kept unary_fits binary_fits f k here c S Homes0 Lives0 kinds fresh_ base frame cc g callees calls r) r seen sl y.state (kept_seen unary_fits binary_fits f k here c S Homes0 Lives0 kinds fresh_ base frame cc g callees calls r seen sl scene_l) kept.grown scene_l) in
        let kept2 = keeps_stmt unary_fits binary_fits f k here c S Homes0 Lives0 kinds fresh_ base frame cc g callees calls other r (λ i. ⊥) false breaks continues tail sr sound.2 in
        let within_z : IsWithin z.state f = record { variables = within.variables; arrays = within.arrays } in
        let within_r = lower (Kept unary_fits binary_fits f k here c S Homes0 Lives0 kinds fresh_ base frame cc g callees calls r) sr z.state kept2.grown within_z in
        let within_y : IsWithin y.state f = record { variables = within_r.variables; arrays = within_r.arrays } in
        let within_l = lower (Kept unary_fits binary_fits f k here c S Homes0 Lives0 kinds fresh_ base frame cc g callees calls r) sl y.state kept.grown within_y in
        let within_x : IsWithin x.state f = record { variables = within_l.variables; arrays = within_l.arrays } in
        let toB' = λ (e : breaks ≡ true). leads_within unary_fits binary_fits f k here c S Homes0 Lives0 kinds fresh_ base frame cc g callees calls r seen Own B (toB e) in
        let toC' = λ (e : continues ≡ true). leads_within unary_fits binary_fits f k here c S Homes0 Lives0 kinds fresh_ base frame cc g callees calls r seen Own C (toC e) in
        if_parts unary_fits binary_fits f k here c S Homes0 Lives0 kinds fresh_ base frame cc g callees calls r seen B C tail lv test x.value x.pieces (tree.mark (point_in c point.Arm at) ∷ y.pieces) (tree.mark (point_in c point.Arm colon) ∷ z.pieces) at (ks.arm at here (ks.statement cc tail body here)) (ks.arm colon here (ks.statement cc tail other here)) s t n
        (evaluated unary_fits binary_fits f k here c S Homes0 Lives0 kinds fresh_ base frame cc g callees calls true test r seen st scene sound.0 within_x s t n le rel)
        (λ s1 t1 n1 le1 rel1. in_arm tail body r seen false breaks continues sound.1 sl B C toB' toC' at lv (λ e. or_left (leaves body tail) (leaves other tail) e) (statement_same tail body r seen (λ i. ⊥) false breaks continues sound.1 sl scene_l within_y) s1 t1 n1 le1 rel1)
        (λ s1 t1 n1 le1 rel1. in_arm tail other r seen false breaks continues sound.2 sr B C toB' toC' colon lv (λ e. or_right (leaves body tail) (leaves other tail) e) (statement_same tail other r seen (λ i. ⊥) false breaks continues sound.2 sr scene_r within_z) s1 t1 n1 le1 rel1)
    statement_same tail (core.switch_ test objects body at) r seen Own labels breaks continues sound st scene within B C toB toC s t n le rel =
        let x = expression g c test st in
        let st0 = record x.state { made = 0 } in
        let y = statements g c body false st0 in
        let r1 = enter objects r in
        let scene0 = scene_made unary_fits binary_fits f k here c S Homes0 Lives0 kinds fresh_ base frame cc g callees calls 0 r seen x.state (scene_later f here c S Homes0 Lives0 kinds fresh_ base frame r seen st x.state (expression_later unary_fits binary_fits f k here c S Homes0 Lives0 kinds fresh_ base frame cc g callees calls r seen st scene test) scene) in
        let kept = keeps_stmts unary_fits binary_fits f k here c S Homes0 Lives0 kinds fresh_ base frame cc g callees calls body r1 (λ i. Among objects i) true true continues false st0 sound.2 in
        let within_y : IsWithin y.state f = record { variables = within.variables; arrays = within.arrays } in
        let within_0 = lower (Kept unary_fits binary_fits f k here c S Homes0 Lives0 kinds fresh_ base frame cc g callees calls r1) st0 y.state kept.grown within_y in
        let within_x : IsWithin x.state f = record { variables = within_0.variables; arrays = within_0.arrays } in
        switch_same unary_fits binary_fits f k here c S Homes0 Lives0 kinds fresh_ base frame cc g callees calls counts test objects body at r seen continues tail st B C sound.0 sound.1 sound.2 scene within_x
        (λ wanted e. jump_same wanted body r1 seen (λ i. Among objects i) true continues sound.2 st0 (scene_enter f here c S Homes0 Lives0 kinds fresh_ base frame objects r seen st0 scene0) within_y e (I r seen) C
        (λ q. leads_enter unary_fits binary_fits f k here c S Homes0 Lives0 kinds fresh_ base frame cc g callees calls objects r seen (λ i. ⊥) (I r seen) sound.1 (leads_here unary_fits binary_fits f k here c S Homes0 Lives0 kinds fresh_ base frame cc g callees calls r seen)) (λ q. leads_enter unary_fits binary_fits f k here c S Homes0 Lives0 kinds fresh_ base frame cc g callees calls objects r seen Own C sound.1 (toC q)))
        s t n le rel
    statement_same tail (core.case_ value_ body at) r seen Own labels breaks continues sound st scene within B C toB toC s t n le rel =
        let st1 = record st { made = st.made + 1 } in
        let y = statement g c body false st1 in
        let lv = leaves body false in
        same_more k k (E r seen B C false lv) (E r seen B C tail lv) (ks.arm at here (ks.statement cc false body here) s n) (run_of f (tree.mark (point_in c point.Arm at) ∷ y.pieces) t n) (le_refl k)
        (λ z s2 w t2 a. ends_more (I r seen) (I r seen) B B C C Q c.call false tail lv lv (λ s3 t3 h. h) (λ s3 t3 h. h) (λ s3 t3 h. h) (λ e. absurd (false≢true e)) (λ e. e) z s2 w t2 a)
        (in_arm false body r seen labels breaks continues sound.1 st1 B C (λ e. leads_within unary_fits binary_fits f k here c S Homes0 Lives0 kinds fresh_ base frame cc g callees calls r seen Own B (toB e)) (λ e. leads_within unary_fits binary_fits f k here c S Homes0 Lives0 kinds fresh_ base frame cc g callees calls r seen Own C (toC e)) at lv (λ e. e)
        (statement_same false body r seen (λ i. ⊥) labels breaks continues sound.1 st1 (scene_made unary_fits binary_fits f k here c S Homes0 Lives0 kinds fresh_ base frame cc g callees calls (st.made + 1) r seen st scene) (record { variables = within.variables; arrays = within.arrays })) s t n le rel)
    statement_same tail (core.while_ test body at) r seen Own labels breaks continues sound st scene within B C toB toC s t n le rel =
        for_rounds (Some test) body [] at r seen B C tail st sound.0 tt sound.1 scene within (λ st1 scene1 within1 s1 t1 n1 le1 rel1. in_loop body r seen sound.1 st1 (statement_same false body r seen (λ i. ⊥) false true true sound.1 st1 scene1 within1) s1 t1 n1 le1 rel1) s t n le rel
    statement_same tail (core.do_ body test at) r seen Own labels breaks continues sound st scene within B C toB toC s t n le rel =
        do_rounds test body at r seen B C tail st sound.0 sound.1 scene within (λ st1 scene1 within1 s1 t1 n1 le1 rel1. in_loop body r seen sound.1 st1 (statement_same false body r seen (λ i. ⊥) false true true sound.1 st1 scene1 within1) s1 t1 n1 le1 rel1) s t n le rel
    statement_same tail (core.for_ objects init test steps body at) r seen Own labels breaks continues sound st scene within B C toB toC s t n le rel =
        let r1 = enter objects r in
        let x = statements g c init false st in
        let y = repeat g c false test (statement g c body false) steps at x.state in
        let r2 = behind_all init r1 in
        let seen2 = seen_all g c init false st seen in
        let lv = leaves body false in
        let within_x = lower (Kept unary_fits binary_fits f k here c S Homes0 Lives0 kinds fresh_ base frame cc g callees calls r2) x.state y.state (repeat_grown test body steps at r2 x.state sound.4) within in
        let rel1 = relates_entered f here c S Homes0 Lives0 kinds fresh_ base frame objects r seen st s t scene (new_reachable f here c S Homes0 Lives0 kinds fresh_ base frame objects r sound.0) rel in
        let q = begins_same init r1 seen (λ i. Among objects i) st sound.1.0 sound.1.1 (scene_enter f here c S Homes0 Lives0 kinds fresh_ base frame objects r seen st scene) within_x in
        let R = λ (z : Completion) (s1 : Cells) (w : Way) (t1 : Store). (z ≡ end.Normal) × (w ≡ on) × I r2 seen2 s1 t1 in
        let inner = inner_all unary_fits binary_fits f k here c S Homes0 Lives0 kinds fresh_ base frame cc g callees calls init r1 seen (λ i. Among objects i) false false false false st r seen sound.1.1 (λ i m l. among_new unary_fits binary_fits f k here c S Homes0 Lives0 kinds fresh_ base frame cc g callees calls objects r i sound.0 m l) (in_enter f here c S Homes0 Lives0 kinds fresh_ base frame objects r seen) in
        let round_ = ks.test_first cc test (ks.statement cc false body here) steps at here in
        on_same f k R (E r seen B C tail lv) x.pieces y.pieces (ks.statements cc false init here (entered here objects s) n) (λ u s1 n1. ks.loop at here round_ s1 n1) t n (q.1 (entered here objects s) t n le rel1) (λ z s1 w t1 a. a.1)
        (λ z s1 w t1 n1 le1 a.
        same_more k k (E r2 seen2 B C tail lv) (E r seen B C tail lv) (ks.loop at here round_ s1 n1) (run_of f y.pieces t1 n1) (le_refl k)
        (λ z2 s2 w2 t2 b. ends_more (I r2 seen2) (I r seen) B B C C Q c.call tail tail lv lv (λ s3 t3 h. relates_inner f here c S Homes0 Lives0 kinds fresh_ base frame r2 r seen2 seen s3 t3 inner h) (λ s3 t3 h. h) (λ s3 t3 h. h) (λ e. e) (λ e. e) z2 s2 w2 t2 b)
        (for_rounds test body steps at r2 seen2 B C tail x.state sound.2 sound.3 sound.4 q.0 within (λ st1 scene1 within1 s3 t3 n3 le3 rel3. in_loop body r2 seen2 sound.4 st1 (statement_same false body r2 seen2 (λ i. ⊥) false true true sound.4 st1 scene1 within1) s3 t3 n3 le3 rel3) s1 t1 n1 le1 a.2))
    statement_same tail core.break_ r seen Own labels breaks continues sound st scene within B C toB toC s t n le rel =
        let h = toB sound in
        goes_same k (E r seen B C tail false) end.Broke s pm.broke t n le (refl, h.relates s t (relates_inner f here c S Homes0 Lives0 kinds fresh_ base frame r h.reach_ seen h.seen_ s t h.inner rel))
    statement_same tail core.continue_ r seen Own labels breaks continues sound st scene within B C toB toC s t n le rel =
        let h = toC sound in
        goes_same k (E r seen B C tail false) end.Continued s pm.continued t n le (refl, h.relates s t (relates_inner f here c S Homes0 Lives0 kinds fresh_ base frame r h.reach_ seen h.seen_ s t h.inner rel))
    statement_same tail (core.return_ value_) r seen Own labels breaks continues sound st scene within B C toB toC s t n le rel = return_same value_ tail r seen st B C scene sound within s t n le rel

    pub statements_same : (tail : Bool) (body : CoreStmtTrees) → (r : Reach) (seen : ℕ → Option ArrayId) (Own : ℕ → Type 0) (labels breaks continues : Bool) → StmtsSound S r Own labels breaks continues body → (st : State) → IsScene f c S Homes0 base r seen st → IsWithin (statements g c body tail st).state f
        → (B C : Cells → Store → Type 0) → (breaks ≡ true → LeadsTo unary_fits binary_fits f k here c S Homes0 Lives0 kinds fresh_ base frame cc g callees calls r seen Own B) → (continues ≡ true → LeadsTo unary_fits binary_fits f k here c S Homes0 Lives0 kinds fresh_ base frame cc g callees calls r seen Own C) → (s : Cells) (t : Store) (n : ℕ) → n ≤ k → I r seen s t
        → Same false k (E (behind_all body r) (seen_all g c body tail st seen) B C tail (any_leaves body tail)) (ks.statements cc tail body here s n) (run_of f (statements g c body tail st).pieces t n)
    statements_same tail core.no_stmt r seen Own labels breaks continues sound st scene within B C toB toC s t n le rel = goes_same k (E r seen B C tail false) end.Normal s on t n le (refl, rel)
    statements_same tail (core.more_stmts first rest) r seen Own labels breaks continues sound st scene within B C toB toC s t n le rel =
        let tail1 = tail && is_empty rest in
        let x = statement g c first tail1 st in
        let y = statements g c rest tail x.state in
        let r1 = behind first r in
        let seen1 = seen_behind c first st seen in
        let kept = keeps_stmts unary_fits binary_fits f k here c S Homes0 Lives0 kinds fresh_ base frame cc g callees calls rest r1 Own labels breaks continues tail x.state sound.1 in
        let within_x = lower (Kept unary_fits binary_fits f k here c S Homes0 Lives0 kinds fresh_ base frame cc g callees calls r1) x.state y.state kept.grown within in
        let scene1 = scene_behind first r seen Own labels breaks continues tail1 st sound.0 scene within_x in
        let r2 = behind_all rest r1 in
        let seen2 = seen_all g c rest tail x.state seen1 in
        let lv1 = leaves first tail1 in
        let lv = lv1 || any_leaves rest tail in
        let whole = λ (last : Bool). Steps.then_ (ks.statement cc (tail && last) first here s n) (λ z s1 n1. ks.go_on z (ks.statements cc tail rest here) s1 n1) in
        subst (λ last. Same false k (E r2 seen2 B C tail lv) (whole last) (run_of f (x.pieces ++ y.pieces) t n)) (sym (empty_last rest))
        (sequence_same f k (I r2 seen2) B C Q c.call (I r1 seen1) tail tail1 lv lv1 x.pieces y.pieces (ks.statement cc tail1 first here s n) (ks.statements cc tail rest here) t n
        (λ e. (nothing_behind rest tail x.state (and_second tail (is_empty rest) e), and_first tail (is_empty rest) e)) (λ e. or_left lv1 (any_leaves rest tail) e)
        (λ t1 n1. lands_pass f x.state.calls c.call y.pieces scene1.called kept.lands t1 n1)
        (statement_same tail1 first r seen Own labels breaks continues sound.0 st scene within_x B C toB toC s t n le rel)
        (λ s1 t1 n1 le1 rel1.
        same_more k k (E r2 seen2 B C tail (any_leaves rest tail)) (E r2 seen2 B C tail lv) (ks.statements cc tail rest here s1 n1) (run_of f y.pieces t1 n1) (le_refl k)
        (λ z s2 w t2 a. ends_more (I r2 seen2) (I r2 seen2) B B C C Q c.call tail tail (any_leaves rest tail) lv (λ s3 t3 h. h) (λ s3 t3 h. h) (λ s3 t3 h. h) (λ e. e) (λ e. or_right lv1 (any_leaves rest tail) e) z s2 w t2 a)
        (statements_same tail rest r1 seen1 Own labels breaks continues sound.1 x.state scene1 within B C (λ e. leads_behind unary_fits binary_fits f k here c S Homes0 Lives0 kinds fresh_ base frame cc g callees calls first r seen Own labels breaks continues st B sound.0 (toB e)) (λ e. leads_behind unary_fits binary_fits f k here c S Homes0 Lives0 kinds fresh_ base frame cc g callees calls first r seen Own labels breaks continues st C sound.0 (toC e)) s1 t1 n1 le1 rel1)))

    -- a statement from its first label of this kind on
    labelled_same : (wanted : Option ℕ → Bool) (b : CoreStmtTree) (r : Reach) (seen : ℕ → Option ArrayId) (Own : ℕ → Type 0) (breaks continues : Bool) → StmtSound S r Own true breaks continues b → (st : State) → IsScene f c S Homes0 base r seen st → IsWithin (statement g c b false st).state f → has_label wanted b ≡ true
        → (B C : Cells → Store → Type 0) → (breaks ≡ true → LeadsTo unary_fits binary_fits f k here c S Homes0 Lives0 kinds fresh_ base frame cc g callees calls r seen Own B) → (continues ≡ true → LeadsTo unary_fits binary_fits f k here c S Homes0 Lives0 kinds fresh_ base frame cc g callees calls r seen Own C) → StartsAt unary_fits binary_fits f k here c S Homes0 Lives0 kinds fresh_ base frame cc g callees calls counts wanted b r seen st B C
    labelled_same wanted (core.case_ value_ body at) r seen Own breaks continues sound st scene within has_ B C toB toC =
        let st1 = record st { made = st.made + 1 } in
        let y = statement g c body false st1 in
        let lv = leaves body false in
        let scene1 = scene_made unary_fits binary_fits f k here c S Homes0 Lives0 kinds fresh_ base frame cc g callees calls (st.made + 1) r seen st scene in
        let within1 : IsWithin y.state f = record { variables = within.variables; arrays = within.arrays } in
        let toB1 = λ (e : breaks ≡ true). leads_within unary_fits binary_fits f k here c S Homes0 Lives0 kinds fresh_ base frame cc g callees calls r seen Own B (toB e) in
        let toC1 = λ (e : continues ≡ true). leads_within unary_fits binary_fits f k here c S Homes0 Lives0 kinds fresh_ base frame cc g callees calls r seen Own C (toC e) in
        let mark_ = tree.mark (point_in c point.Arm at) in
        let either_ = λ (z : Bool) (s : Cells) (n : ℕ). if z then ks.arm at here (ks.statement cc false body here) s n else ks.labelled cc wanted body here s n in
        elim (cases_Bool (wanted value_)) [
          | inl e ↦ (
            0,
            omega arith,
            ap (λ z. if z then Some st.made else first_target wanted y.labels) e ∙ ap Some (let q : st.made ≡ st.made + 0 = omega arith in q),
            λ s t n le rel.
                subst (λ z. Same false k (E r seen B C false lv) (either_ z s n) (run_of f (mark_ ∷ y.pieces) t n)) (sym e)
                (in_arm false body r seen true breaks continues sound.1 st1 B C toB1 toC1 at lv (λ q. q) (statement_same false body r seen (λ i. ⊥) true breaks continues sound.1 st1 scene1 within1) s t n le rel),
          )
          | inr e ↦
              let w = labelled_same wanted body r seen (λ i. ⊥) breaks continues sound.1 st1 scene1 within1 (sym (ap (λ z. if z then true else has_label wanted body) e) ∙ has_) B C toB1 toC1 in (
                suc w.0,
                (let q = w.1 in omega (arith, q)),
                ap (λ z. if z then Some st.made else first_target wanted y.labels) e ∙ w.2 ∙ ap Some (let q : st.made + 1 + w.0 ≡ st.made + suc w.0 = omega arith in q),
                λ s t n le rel.
                    subst (λ z. Same false k (E r seen B C false lv) (either_ z s n) (run_of f (drop w.0 y.pieces) t n)) (sym e)
                    (out_of unary_fits binary_fits f k here c S Homes0 Lives0 kinds fresh_ base frame cc g callees calls counts body r seen true breaks continues st1 B C false lv (ks.labelled cc wanted body here s n) (run_of f (drop w.0 y.pieces) t n) sound.1 (w.3 s t n le rel)),
              )
        ]
    labelled_same wanted (core.block objects body) r seen Own breaks continues sound st scene within has_ B C toB toC = absurd (false≢true has_)
    labelled_same wanted (core.declare object init) r seen Own breaks continues sound st scene within has_ B C toB toC = absurd (false≢true has_)
    labelled_same wanted (core.act list) r seen Own breaks continues sound st scene within has_ B C toB toC = absurd (false≢true has_)
    labelled_same wanted (core.if_ test body other at) r seen Own breaks continues sound st scene within has_ B C toB toC = absurd (false≢true has_)
    labelled_same wanted (core.switch_ test objects body at) r seen Own breaks continues sound st scene within has_ B C toB toC = absurd (false≢true has_)
    labelled_same wanted (core.while_ test body at) r seen Own breaks continues sound st scene within has_ B C toB toC = absurd (false≢true has_)
    labelled_same wanted (core.do_ body test at) r seen Own breaks continues sound st scene within has_ B C toB toC = absurd (false≢true has_)
    labelled_same wanted (core.for_ objects init test step body at) r seen Own breaks continues sound st scene within has_ B C toB toC = absurd (false≢true has_)
    labelled_same wanted core.break_ r seen Own breaks continues sound st scene within has_ B C toB toC = absurd (false≢true has_)
    labelled_same wanted core.continue_ r seen Own breaks continues sound st scene within has_ B C toB toC = absurd (false≢true has_)
    labelled_same wanted (core.return_ value_) r seen Own breaks continues sound st scene within has_ B C toB toC = absurd (false≢true has_)

    -- the items of a switch from the first label of this kind on
    jump_same : (wanted : Option ℕ → Bool) (body : CoreStmtTrees) (r : Reach) (seen : ℕ → Option ArrayId) (Own : ℕ → Type 0) (breaks continues : Bool) → StmtsSound S r Own true breaks continues body → (st : State) → IsScene f c S Homes0 base r seen st → IsWithin (statements g c body false st).state f → any_label wanted body ≡ true
        → (B C : Cells → Store → Type 0) → (breaks ≡ true → LeadsTo unary_fits binary_fits f k here c S Homes0 Lives0 kinds fresh_ base frame cc g callees calls r seen Own B) → (continues ≡ true → LeadsTo unary_fits binary_fits f k here c S Homes0 Lives0 kinds fresh_ base frame cc g callees calls r seen Own C) → JumpsTo unary_fits binary_fits f k here c S Homes0 Lives0 kinds fresh_ base frame cc g callees calls counts wanted body r seen st B C
    jump_same wanted core.no_stmt r seen Own breaks continues sound st scene within any_ B C toB toC = absurd (false≢true any_)
    jump_same wanted (core.more_stmts first rest) r seen Own breaks continues sound st scene within any_ B C toB toC =
        let x = statement g c first false st in
        let y = statements g c rest false x.state in
        let r1 = behind first r in
        let seen1 = seen_behind c first st seen in
        let kept = keeps_stmts unary_fits binary_fits f k here c S Homes0 Lives0 kinds fresh_ base frame cc g callees calls rest r1 Own true breaks continues false x.state sound.1 in
        let within_x = lower (Kept unary_fits binary_fits f k here c S Homes0 Lives0 kinds fresh_ base frame cc g callees calls r1) x.state y.state kept.grown within in
        let scene1 = scene_behind first r seen Own true breaks continues false st sound.0 scene within_x in
        let r2 = behind_all rest r1 in
        let seen2 = seen_all g c rest false x.state seen1 in
        let lv1 = leaves first false in
        let lv = lv1 || any_leaves rest false in
        let toB1 = λ (e : breaks ≡ true). leads_behind unary_fits binary_fits f k here c S Homes0 Lives0 kinds fresh_ base frame cc g callees calls first r seen Own true breaks continues st B sound.0 (toB e) in
        let toC1 = λ (e : continues ≡ true). leads_behind unary_fits binary_fits f k here c S Homes0 Lives0 kinds fresh_ base frame cc g callees calls first r seen Own true breaks continues st C sound.0 (toC e) in
        let either_ = λ (z : Bool) (s : Cells) (n : ℕ). if z then Steps.then_ (ks.labelled cc wanted first here s n) (λ v s1 n1. ks.go_on v (ks.statements cc false rest here) s1 n1) else ks.jump cc wanted rest here s n in
        let more = λ (z : Completion) (s2 : Cells) (w : Way) (t2 : Store) (a : E r2 seen2 B C false (any_leaves rest false) z s2 w t2).
        ends_more (I r2 seen2) (I r2 seen2) B B C C Q c.call false false (any_leaves rest false) lv (λ s3 t3 h. h) (λ s3 t3 h. h) (λ s3 t3 h. h) (λ e. e) (λ e. or_right lv1 (any_leaves rest false) e) z s2 w t2 a in
        elim (cases_Bool (has_label wanted first)) [
          | inl e ↦
              let w = labelled_same wanted first r seen Own breaks continues sound.0 st scene within_x e B C toB toC in (
                w.0,
                first_here wanted x.labels y.labels (st.made + w.0) w.2,
                λ s t n le rel.
                    subst (λ z. Same false k (E r2 seen2 B C false lv) (either_ z s n) (run_of f (drop w.0 (x.pieces ++ y.pieces)) t n)) (sym e)
                    (subst (λ zs. Same false k (E r2 seen2 B C false lv) (either_ true s n) (run_of f zs t n)) (sym (drop-append-le w.0 x.pieces y.pieces w.1))
                    (sequence_same f k (I r2 seen2) B C Q c.call (I r1 seen1) false false lv lv1 (drop w.0 x.pieces) y.pieces (ks.labelled cc wanted first here s n) (ks.statements cc false rest here) t n
                    (λ q. absurd (false≢true q)) (λ q. or_left lv1 (any_leaves rest false) q) (λ t1 n1. lands_pass f x.state.calls c.call y.pieces scene1.called kept.lands t1 n1) (w.3 s t n le rel)
                    (λ s1 t1 n1 le1 rel1.
                    same_more k k (E r2 seen2 B C false (any_leaves rest false)) (E r2 seen2 B C false lv) (ks.statements cc false rest here s1 n1) (run_of f y.pieces t1 n1) (le_refl k) more
                    (statements_same false rest r1 seen1 Own true breaks continues sound.1 x.state scene1 within B C toB1 toC1 s1 t1 n1 le1 rel1)))),
              )
          | inr e ↦
              let w = jump_same wanted rest r1 seen1 Own breaks continues sound.1 x.state scene1 within (sym (ap (λ z. if z then true else any_label wanted rest) e) ∙ any_) B C toB1 toC1 in
              let counted = front_counted S g c counts first st r Own breaks continues sound.0 in (
                length x.pieces + w.0,
                first_behind wanted x.labels y.labels (no_front S g c counts wanted first st r Own breaks continues sound.0 e) ∙ w.1 ∙ ap Some (let q : x.state.made + w.0 ≡ st.made + (length x.pieces + w.0) = omega (arith, counted) in q),
                λ s t n le rel.
                    subst (λ z. Same false k (E r2 seen2 B C false lv) (either_ z s n) (run_of f (drop (length x.pieces + w.0) (x.pieces ++ y.pieces)) t n)) (sym e)
                    (subst (λ zs. Same false k (E r2 seen2 B C false lv) (ks.jump cc wanted rest here s n) (run_of f zs t n)) (sym (drop-append-add x.pieces y.pieces w.0))
                    (same_more k k (E r2 seen2 B C false (any_leaves rest false)) (E r2 seen2 B C false lv) (ks.jump cc wanted rest here s n) (run_of f (drop w.0 y.pieces) t n) (le_refl k) more
                    (w.2 s t n le (skip_behind unary_fits binary_fits f k here c S Homes0 Lives0 kinds fresh_ base frame cc g callees calls counts first r seen Own true breaks continues st sound.0 scene within_x s t rel)))),
              )
        ]
