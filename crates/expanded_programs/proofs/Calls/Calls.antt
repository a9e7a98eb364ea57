-- Calls of functions do what their pieces do.
use Rattle.std.proofs.Common.{◌≡◌, ℕ, zero, suc, ◌+◌, ◌<◌, ◌≤◌, inr, ◌∙◌, sym, refl, ap, subst, ℤ, Bool, true, false, List, [], ◌∷◌, ◌++◌, length, take, slice_get, Option, Some, None, le_refl, arith}
use Rattle.std.specs.Prelude.{unwrap_or}
use Rattle.std.proofs.lemmas.List.{append-nil}
use Rattle.hls_base.specs.declared.place.Place.{Place}
use Rattle.hls_base.specs.declared.point.PointKind.TheVariants as point
use Rattle.hls_base.specs.declared.number.VarId.{VarId}
use Rattle.hls_base.specs.declared.number.ArrayId.{ArrayId}
use Rattle.c_token.specs.declared.ctype.CType.{CType}
use Rattle.c_value.specs.Values.{int_type}
use Rattle.pieces.specs.Resolved.Core.{ArgumentTrees, CoreFunctionTree, CoreProgramTree}
use Rattle.pieces.specs.Trees as tree
use Rattle.pieces.specs.Trees.{PureTree, PieceTree}
use Rattle.piece_making.specs.declared.frame.Home.{Home}
use Rattle.piece_making.specs.Making.{State, Part, then_, emit, fresh_result, next_call, variable_number}
use Rattle.piece_making.specs.Calls.{Call, point_in}
use Rattle.piece_making.specs.Leaving.{any_leaves}
use Rattle.hls_base.specs.Steps.{waits}
use Rattle.hls_base.specs.Valued.{is}
use Rattle.hls_base.specs.Same.{Same}
use Rattle.c_meaning.specs.CoreRuns.Cells.{Spot, Cells, Given, Here}
use Rattle.c_meaning.specs.CoreRuns.Expressions.{number_or_zero}
use Rattle.c_meaning.specs.CoreRuns.Runs as rs
use Rattle.c_meaning.specs.PieceRuns.Values.{Store}
use Rattle.c_meaning.specs.PieceRuns.Pieces.{Frame, Way, type_of}
use Rattle.c_expand.specs.Expressions as e
use Rattle.c_expand.specs.Expressions.{Callee, value_or_zero}
use Rattle.c_expand.specs.Statements.{statements, result_variable}
use Rattle.c_expand.specs.Expansion as ex
use Rattle.c_expand.specs.Expansion.{homes_for, parameters, within, end_of, run_through, value_of, opened, opened_as}
use Rattle.expand_runs.specs.Reading.{UnaryFits, BinaryFits, IsTyped, variable_type}
use Rattle.expand_runs.specs.Growing.{IsWithin}
use Rattle.expand_runs.specs.Showing.{Known, IsShown}
use Rattle.expand_runs.specs.Evaluating.{IsValue}
use Rattle.expand_runs.specs.Calling.{AreGiven, HasCalled, CallsSame}
use Rattle.expand_runs.specs.Worlds.{IsOver}
use Rattle.expand_runs.proofs.Evaluating.{goes_first}
use Rattle.expand_runs.proofs.Going.{Goes}
use Rattle.expand_runs.proofs.Growing.{within_before, within_grown}
use Rattle.expand_runs.proofs.Rows.{run_of}
use Rattle.expand_runs.proofs.Sames.{same_more}
use Rattle.expanded_programs.specs.Statements.Scopes.{Setting, Reach, TakesAll, objects_in, Among, enter}
use Rattle.expanded_programs.specs.Statements.Frames.{HomesIn, LivesIn, IsFrame, IsScene, Relates}
use Rattle.expand_runs.specs.Counting.{EachUnlabelled}
use Rattle.expand_runs.proofs.PieceCounts.Calls.{calls_counted}
use Rattle.expanded_programs.proofs.StatementsLemmas.Labels.{all_unlabelled}
use Rattle.expanded_programs.proofs.StatementsLemmas.LoopParts.{mark_first}
use Rattle.expanded_programs.proofs.StatementsLemmas.Scenes.{seen_cell}
use Rattle.expanded_programs.specs.Calls.Programs.{at_start, IsProgramSound}
use Rattle.expanded_programs.proofs.Calls.Homes.{homes_fine}
use Rattle.expanded_programs.proofs.Calls.Starting.{nothing_seen}
use Rattle.expanded_programs.proofs.Calls.Returning.{GivesResult}
use Rattle.expanded_programs.proofs.Calls.Callees.{FileFirst, result_made, opened_grown, callees_keep, Before, setting_at}
use Rattle.expanded_programs.proofs.Calls.Bodies.{IsLeft, body_same}
use Rattle.expanded_programs.proofs.Calls.Opening.{shown_out}
use Rattle.expanded_programs.proofs.Calls.Frames.{IsCaller, h3, c1, here1, S1, kinds1, base1, apart_lives1, frame1, caller1, scene1, sets, relates1, homes_there, behind_homes, call_later}

pub opened_pieces : (g : Callee) (fn : CoreFunctionTree) (given : List e.Given) (c : Call) (at : Place) (s : State)
    → (opened g fn given c at s).pieces ≡ (homes_for fn given s).pieces ++ (run_through g (within c fn (homes_for fn given s).value (c.path ++ at ∷ []) (next_call (homes_for fn given s).state).value (fresh_result fn.result (next_call (homes_for fn given s).state).state).value) fn (fresh_result fn.result (next_call (homes_for fn given s).state).state).state).pieces
unfolding then_ next_call
opened_pieces g fn given c at s =
    let h = homes_for fn given s in
    let s2 = (next_call h.state).state in
    let r = fresh_result fn.result s2 in
    let run = run_through g (within c fn h.value (c.path ++ at ∷ []) (next_call h.state).value r.value) fn r.state in
    ap (λ z. h.pieces ++ (z ++ (run.pieces ++ []))) (result_made fn.result s2).pieces ∙ ap (λ z. h.pieces ++ z) (append-nil run.pieces)

opened_state : (g : Callee) (fn : CoreFunctionTree) (given : List e.Given) (c : Call) (at : Place) (s : State)
    → (opened g fn given c at s).state ≡ (run_through g (within c fn (homes_for fn given s).value (c.path ++ at ∷ []) (next_call (homes_for fn given s).state).value (fresh_result fn.result (next_call (homes_for fn given s).state).state).value) fn (fresh_result fn.result (next_call (homes_for fn given s).state).state).state).state
unfolding then_
opened_state g fn given c at s = refl

opened_value : (g : Callee) (fn : CoreFunctionTree) (given : List e.Given) (c : Call) (at : Place) (s : State) → (opened g fn given c at s).value ≡ value_of (fresh_result fn.result (next_call (homes_for fn given s).state).state).value fn.result
unfolding then_
opened_value g fn given c at s = refl

-- no point may be passed
run_waits : (f : Frame) (g : Callee) (c : Call) (fn : CoreFunctionTree) (st : State) (t : Store) → run_of f (run_through g c fn st).pieces t 0 ≡ waits
unfolding then_ emit
run_waits f g c fn st t = mark_first f (point_in c point.Begin fn.at) ((statements g c fn.body true (record st { made = st.made + 1 })).pieces ++ (end_of (any_leaves fn.body true) c.call (point_in c point.End fn.at) ∷ [])) t 0

-- the value of a call, where it is used
result_value : (f : Frame) (c : Call) (low high : ℕ) (result kd : Option CType) (own : Option VarId) (m : ℕ) (v : Option ℤ) (t : Store) → result ≡ kd → (result ≡ None → own ≡ None) → ((k : CType) → result ≡ Some k → (own ≡ Some (variable_number m)) × (variable_type f m ≡ k) × (low ≤ m) × (m < high))
    → GivesResult result v → ((x : ℤ) → v ≡ Some x → t.variables (result_variable own).0 ≡ x) → IsValue f c (λ y. ⊥) low high (value_or_zero (value_of own result)) (unwrap_or kd int_type) (number_or_zero v) t
result_value f c low high None kd own m v t e none_ some_ gives number =
    subst (λ z. IsValue f c (λ y. ⊥) low high (value_or_zero (value_of z None)) (unwrap_or kd int_type) (number_or_zero v) t) (sym (none_ refl))
    (subst (λ z. IsValue f c (λ y. ⊥) low high (tree.number 0 int_type) (unwrap_or z int_type) (number_or_zero v) t) e
    (subst (λ z. IsValue f c (λ y. ⊥) low high (tree.number 0 int_type) int_type (number_or_zero z) t) (sym gives) (record { same = refl; type = refl; types = refl; reads = tt })))
result_value f c low high (Some k) kd own m v t e none_ some_ gives number =
    let q = some_ k refl in
    let x = gives.0 in
    let there : t.variables m ≡ x = ap (λ z. t.variables (result_variable z).0) (sym q.0) ∙ number x gives.1 in
    subst (λ z. IsValue f c (λ y. ⊥) low high (value_or_zero (value_of z (Some k))) (unwrap_or kd int_type) (number_or_zero v) t) (sym q.0)
    (subst (λ z. IsValue f c (λ y. ⊥) low high (tree.variable (variable_number m) k) (unwrap_or z int_type) (number_or_zero v) t) e
    (subst (λ z. IsValue f c (λ y. ⊥) low high (tree.variable (variable_number m) k) k (number_or_zero z) t) (sym gives.1) (record { same = ap is there; type = refl; types = q.1; reads = inr (q.2, q.3) })))

-- No label of a body stands outside its switches.
pub each_unlabelled : (p : CoreProgramTree) → IsProgramSound p → EachUnlabelled p.functions
each_unlabelled p sound i fn is_fn =
    let S = setting_at p sound i fn in
    all_unlabelled S fn.body (enter fn.outermost (at_start S)) (λ j. Among fn.outermost j) false false (sound.functions i fn is_fn).body

module _ (p : CoreProgramTree) (sound : IsProgramSound p) (unary_fits : UnaryFits) (binary_fits : BinaryFits) (f : Frame) (file : List Home) (file_variables : ℕ) (first : FileFirst p sound file file_variables) where
  -- Calls do the same wherever a function of the program is under way whose callees have ranks below `count`.
  abbrev pub AllCallsSame : ℕ → ℕ → Type 1
  AllCallsSame count k =
      (here : Here) (c : Call) (S : Setting) (Homes0 : Spot → Home → Type 0) (Lives0 : Spot → Type 0) (kinds : Known) (fresh_ base : ℕ) (frame : IsFrame f here c S Homes0 Lives0 kinds fresh_ base) → IsCaller p sound f file file_variables here c S Homes0 Lives0 kinds → ((j : ℕ) → S.Callable j → sound.rank j < count)
      → (r : Reach) (seen : ℕ → Option ArrayId) (st : State) → IsScene f c S Homes0 base r seen st
      → CallsSame k f here c (objects_in S r) (HomesIn here c Homes0 Lives0 seen) (LivesIn here c Homes0 Lives0 r) kinds base (length st.arrays) (seen_cell seen) (rs.calls k p.functions) (ex.calls p.functions count)

  module _ (m : ℕ) (ih : (k : ℕ) → AllCallsSame m k)
      (here : Here) (c : Call) (S : Setting) (Homes0 : Spot → Home → Type 0) (Lives0 : Spot → Type 0) (kinds : Known) (fresh_ base : ℕ) (frame : IsFrame f here c S Homes0 Lives0 kinds fresh_ base) (caller : IsCaller p sound f file file_variables here c S Homes0 Lives0 kinds)
      (r : Reach) (seen : ℕ → Option ArrayId) (st0 : State) (scene : IsScene f c S Homes0 base r seen st0) (callee : ℕ) (fn : CoreFunctionTree) (is_fn : slice_get p.functions callee ≡ Some fn) (low_rank : sound.rank callee < suc m)
      (args : ArgumentTrees) (takes : TakesAll S r (take fn.params fn.objects) args) (gs : List Given) (hs : List e.Given) (at : Place) (st : State) (over : IsOver c base (length st0.arrays) (seen_cell seen) st) where
    abbrev g : Callee
    g = ex.calls p.functions m

    abbrev H : Spot → Home → Type 0
    H = HomesIn here c Homes0 Lives0 seen

    abbrev L : Spot → Type 0
    L = LivesIn here c Homes0 Lives0 r

    abbrev C : Call
    C = c1 p sound f file file_variables here c S Homes0 Lives0 kinds fresh_ base frame caller r seen st0 scene callee fn is_fn args takes gs hs at st over

    abbrev W : Here
    W = here1 p sound f file file_variables here c S Homes0 Lives0 kinds fresh_ base frame caller r seen st0 scene callee fn is_fn args takes gs hs at st over

    abbrev T : Setting
    T = S1 p sound f file file_variables here c S Homes0 Lives0 kinds fresh_ base frame caller r seen st0 scene callee fn is_fn args takes gs hs at st over

    abbrev K : Known
    K = kinds1 p sound f file file_variables here c S Homes0 Lives0 kinds fresh_ base frame caller r seen st0 scene callee fn is_fn args takes gs hs at st over

    abbrev B : ℕ
    B = base1 p sound f file file_variables here c S Homes0 Lives0 kinds fresh_ base frame caller r seen st0 scene callee fn is_fn args takes gs hs at st over

    abbrev s3 : Part (Option VarId)
    s3 = h3 p sound f file file_variables here c S Homes0 Lives0 kinds fresh_ base frame caller r seen st0 scene callee fn is_fn args takes gs hs at st over

    abbrev part : Part (Option PureTree)
    part = opened g fn hs c at st

    abbrev Called : Bool → Option CType → Option ℤ → Cells → Way → Store → Type 0
    Called used kd = HasCalled f c H L kinds used kd (length st.variables) part

    -- what is left of the call is what its caller needs
    has_called : (used : Bool) (kd : Option CType) → fn.result ≡ kd → IsWithin s3.state f → (v : Option ℤ) (s : Cells) (w : Way) (t : Store) → IsLeft f C T H L K used v s w t → Called used kd v s w t
    has_called used kd is_kind inside v s w t h =
        let s1 = (homes_for fn hs st).state in
        let s2 = (next_call s1).state in
        let made = result_made fn.result s2 in
        let up = (homes_fine f (λ t1. Unit {0}) 0 (λ i le t1 x u. tt) fn hs st (omega arith)).later.more in
        let up1 = (call_later s1).more in
        let up2 = (opened_grown p sound f m callee fn hs c at st is_fn).grown.more in
        let whole = ap (λ (z : State). length z.variables) (opened_state g fn hs c at st) in
        record {
          done = record {
            on_ = h.on_;
            shown = shown_out f H L kinds (suc here.frame) fn.objects (apart_lives1 p sound f file file_variables here c S Homes0 Lives0 kinds fresh_ base frame caller r seen st0 scene callee fn is_fn args takes gs hs at st over) s t h.shown;
            typed = h.typed;
          };
          value = λ u.
              subst (λ z. IsValue f c (λ y. ⊥) (length st.variables) (length part.state.variables) (value_or_zero z) (unwrap_or kd int_type) (number_or_zero v) t) (sym (opened_value g fn hs c at st))
              (result_value f c (length st.variables) (length part.state.variables) fn.result kd s3.value (length s2.variables) v t is_kind made.none_
              (λ k e1. (let q = made.some_ k e1 in (q.0, ap type_of (inside.variables (length s2.variables) k q.1), omega (arith, up, up1), (let lt = q.2 in omega (arith, lt, up2, whole)))))
              (h.gives u) h.number);
        }

    -- the pieces of a call, before and behind the point that begins it
    abbrev call_pieces : List PieceTree
    call_pieces = (run_through g C fn s3.state).pieces

    abbrev stored_here : Cells → Cells
    stored_here s1 = rs.parameters (suc here.frame) 0 (take fn.params fn.objects) gs s1

    pub opened_same : (used : Bool) (kd : Option CType) → fn.result ≡ kd → (k : ℕ) → IsWithin part.state f → (s : Cells) (t : Store) (n : ℕ) → n ≤ k → IsShown f H L kinds s t → IsTyped f t → AreGiven f here (objects_in S r) H L (length st.variables) args gs hs t
        → Same false k (Called used kd) (rs.calls k p.functions used callee gs (suc here.frame) (here.path ++ at ∷ []) s n) (run_of f part.pieces t n)
    opened_same used kd is_kind k within_ s t n le shown typed given =
        let grown = (opened_grown p sound f m callee fn hs c at st is_fn).grown in
        let within_run : IsWithin (run_through g C fn s3.state).state f = subst (λ z. IsWithin z f) (opened_state g fn hs c at st) within_ in
        let inside = within_grown (Before f (λ t1. Unit {0}) 0 (λ i le1 t1 x u. tt) g fn hs c at st) s3.state (run_through g C fn s3.state).state f grown within_run in
        let inside1 = within_before (homes_for fn hs st).state s3.state f (behind_homes p sound f file file_variables here c S Homes0 Lives0 kinds fresh_ base frame caller r seen st0 scene callee fn is_fn args takes gs hs at st over) inside in
        let set_ = sets p sound f file file_variables here c S Homes0 Lives0 kinds fresh_ base frame caller r seen st0 scene callee fn is_fn args takes gs hs at st over t given typed inside1 in
        let goes_ : Goes f (homes_for fn hs st).pieces t set_.after = subst (λ z. Goes f z t set_.after) (sym (homes_there p sound f file file_variables here c S Homes0 Lives0 kinds fresh_ base frame caller r seen st0 scene callee fn is_fn args takes gs hs at st over t given).pieces) set_.goes in
        let rel = relates1 p sound f file file_variables here c S Homes0 Lives0 kinds fresh_ base frame caller r seen st0 scene callee fn is_fn args takes gs hs at st over s t given typed inside set_ shown in
        subst (λ zs. Same false k (Called used kd) (rs.calls k p.functions used callee gs (suc here.frame) (here.path ++ at ∷ []) s n) (run_of f zs t n)) (sym (opened_pieces g fn hs c at st))
        (goes_first f k (Called used kd) (homes_for fn hs st).pieces call_pieces (rs.calls k p.functions used callee gs (suc here.frame) (here.path ++ at ∷ []) s n) t set_.after n goes_ (body_at k le inside within_run set_.after rel))
      where
        body_at : (k : ℕ) → n ≤ k → IsWithin s3.state f → IsWithin (run_through g C fn s3.state).state f → (t1 : Store) → Relates f W C H L K (at_start T) nothing_seen (stored_here s) t1
            → Same false k (Called used kd) (rs.calls k p.functions used callee gs (suc here.frame) (here.path ++ at ∷ []) s n) (run_of f call_pieces t1 n)
        body_at zero le1 inside within_run t1 rel = subst (λ z. run_of f call_pieces t1 z ≡ waits) (let z : 0 ≡ n = omega (arith, le1) in z) (run_waits f g C fn s3.state t1)
        body_at (suc k1) le1 inside within_run t1 rel =
            let frame_ = frame1 p sound f file file_variables here c S Homes0 Lives0 kinds fresh_ base frame caller r seen st0 scene callee fn is_fn args takes gs hs at st over t given inside in
            let caller_ = caller1 p sound f file file_variables here c S Homes0 Lives0 kinds fresh_ base frame caller r seen st0 scene callee fn is_fn args takes gs hs at st over in
            let scene_ = scene1 p sound f file file_variables here c S Homes0 Lives0 kinds fresh_ base frame caller r seen st0 scene callee fn is_fn args takes gs hs at st over in
            subst (λ o. Same false (suc k1) (Called used kd) (rs.called (rs.calls k1 p.functions) used o gs (suc here.frame) (here.path ++ at ∷ []) s n) (run_of f call_pieces t1 n)) (sym is_fn)
            (same_more (suc k1) (suc k1) (IsLeft f C T H L K used) (Called used kd) (rs.function (rs.calls k1 p.functions) used fn gs (suc here.frame) (here.path ++ at ∷ []) s n) (run_of f call_pieces t1 n) (le_refl (suc k1))
            (λ v s1 w t2 a. has_called used kd is_kind inside v s1 w t2 a)
            (body_same unary_fits binary_fits f k1 W C T H L K (length st.variables) B frame_ (rs.calls k1 p.functions) g
            (λ r1. callees_keep p sound f file file_variables first T r1 m C refl caller.of_file caller.of_variables)
            (λ r1 seen1 st2 scene2. ih k1 W C T H L K (length st.variables) B frame_ caller_ (λ j lt. omega (arith, lt, low_rank)) r1 seen1 st2 scene2)
            (calls_counted p.functions (each_unlabelled p sound) m C) fn refl used s3.state (sound.functions callee fn is_fn) scene_ within_run (stored_here s) t1 n le1 rel))

  -- By the number of functions that may be called, for all numbers of points that may be passed.
  pub calls_same : (count k : ℕ) → AllCallsSame count k
  calls_same zero k here c S Homes0 Lives0 kinds fresh_ base frame caller low r seen st0 scene used callee args kd takes gs hs at st over within_ s t n le shown typed given = absurd (let lt = low callee takes.2 in omega (arith, lt))
  calls_same (suc m) k here c S Homes0 Lives0 kinds fresh_ base frame caller low r seen st0 scene used callee args kd takes gs hs at st over within_ s t n le shown typed given =
      let fn = takes.0 in
      let is_fn : slice_get p.functions callee ≡ Some fn = ap (λ fs. slice_get fs callee) (sym caller.is_functions) ∙ takes.1 in
      let G = λ (o : Option CoreFunctionTree). IsWithin (opened_as o (ex.calls p.functions m) hs c at st).state f
      → Same false k (HasCalled f c (HomesIn here c Homes0 Lives0 seen) (LivesIn here c Homes0 Lives0 r) kinds used kd (length st.variables) (opened_as o (ex.calls p.functions m) hs c at st)) (rs.calls k p.functions used callee gs (suc here.frame) (here.path ++ at ∷ []) s n) (run_of f (opened_as o (ex.calls p.functions m) hs c at st).pieces t n) in
      let whole : G (slice_get p.functions callee) = subst G (sym is_fn)
      (λ within1. opened_same m (calls_same m) here c S Homes0 Lives0 kinds fresh_ base frame caller r seen st0 scene callee fn is_fn (low callee takes.2) args takes.4 gs hs at st over used kd takes.3 k within1 s t n le shown typed given) in
      whole within_
