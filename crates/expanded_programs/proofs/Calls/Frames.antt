-- What stands for the objects of a function that is called, over those of its caller.
use Rattle.std.proofs.Common.{◌≡◌, ℕ, suc, ◌+◌, ◌≤◌, inl, inr, ◌∙◌, sym, refl, ap, subst, List, [], ◌∷◌, ◌++◌, length, take, drop, slice_get, Option, Some, le_refl, arith}
use Rattle.std.proofs.lemmas.Bool.{cases_lt}
use Rattle.std.proofs.lemmas.Option.{none-some}
use Rattle.hls_base.specs.declared.place.Place.{Place}
use Rattle.hls_base.specs.declared.number.VarId.{VarId}
use Rattle.hls_base.specs.declared.number.ArrayId.{ArrayId}
use Rattle.c_meaning.specs.Store.{Object, scalar}
use Rattle.c_value.specs.Values.{convert}
use Rattle.pieces.specs.Resolved.Core.{ArgumentTrees, CoreObjectTree, FileObjectTree, CoreFunctionTree, CoreProgramTree}
use Rattle.pieces.specs.declared.piece.CallId.{CallId}
use Rattle.piece_making.specs.declared.frame.Home.{Home}
use Rattle.piece_making.specs.declared.frame.Home.TheVariants as home
use Rattle.piece_making.specs.Making.{State, Part, then_, fresh_result, next_call, variable_number}
use Rattle.piece_making.specs.Calls.{Call}
use Rattle.c_meaning.specs.CoreRuns.Cells.{Spot, spot, Cells, Given, Here, spot_given}
use Rattle.c_meaning.specs.CoreRuns.Runs as rs
use Rattle.c_meaning.specs.PieceRuns.Values.{Store}
use Rattle.c_meaning.specs.PieceRuns.Pieces.{Frame, type_of}
use Rattle.c_expand.specs.Expressions as e
use Rattle.c_expand.specs.Expansion.{homes_for, parameters, within}
use Rattle.expand_runs.specs.Reading.{IsTyped}
use Rattle.expand_runs.specs.Growing.{IsLater, IsWithin}
use Rattle.expand_runs.specs.Showing.{Known, IsShown, Stands, IsWhole}
use Rattle.expand_runs.specs.Calling.{AreGiven}
use Rattle.expand_runs.specs.Worlds.{IsOver}
use Rattle.expand_runs.proofs.Growing.{within_before, later_both}
use Rattle.expand_runs.proofs.Showing.{shown_apart}
use Rattle.expanded_programs.specs.Statements.Scopes.{Setting, Reach, IsScalar, TakesAll, objects_in}
use Rattle.expanded_programs.specs.Statements.Frames.{HomesIn, LivesIn, FileStands, OwnStands, IsFrame, IsScene, Relates}
use Rattle.expanded_programs.proofs.StatementsLemmas.Scenes.{own_array, apart_of, below_of, seen_cell}
use Rattle.expanded_programs.specs.Calls.Programs.{at_start, IsFunctionSound, IsProgramSound}
use Rattle.expanded_programs.proofs.Calls.Lists.{get_taken, taken_past}
use Rattle.expanded_programs.proofs.Calls.Homes.{HomesMade, homes_own, homes_made, homes_fine, locals_later}
use Rattle.expanded_programs.proofs.Calls.Owning.{AreOwn, same_variable}
use Rattle.expanded_programs.proofs.Calls.Callees.{taken_of, shaped_of, ResultMade, result_made, setting_at}
use Rattle.expanded_programs.proofs.Calls.Giving.{AreSet, parameters_set, parameters_stored}
use Rattle.expanded_programs.proofs.Calls.Starting.{nothing_seen, relates_started}
use Rattle.expanded_programs.proofs.Calls.Opening.{given_shape, given_ready, given_at, array_home, known_in, shown_in}

nothing_before : (i : ℕ) → 0 + i ≡ i
nothing_before i = omega arith

pub call_calls : (s : State) → ((next_call s).value.0 ≡ s.calls) × ((next_call s).state.calls ≡ s.calls + 1)
unfolding next_call
call_calls s = (refl, refl)

pub call_later : (s : State) → IsLater s (next_call s).state
unfolding next_call
call_later s = record { variables = λ i x e1. e1; more = le_refl _; arrays = λ i x e1. e1; more_arrays = le_refl _; slots = λ i x e1. e1; more_slots = le_refl _; calls = omega arith }

homes_behind : (f : Frame) (fn : CoreFunctionTree) (given : List e.Given) (s : State) → IsLater (parameters fn.objects given [] s).state (homes_for fn given s).state
unfolding then_
homes_behind f fn given s = locals_later f (drop fn.params fn.objects) (parameters fn.objects given [] s).value (parameters fn.objects given [] s).state

-- the same objects, elsewhere in the core's store
pub shown_moved : (f : Frame) (Homes : Spot → Home → Type 0) (Lives : Spot → Type 0) (kinds : Known) (s s' : Cells) (t : Store) → ((x : Spot) → Lives x → s' x ≡ s x) → ((x : Spot) → kinds.Whole x → s' x ≡ s x) → IsShown f Homes Lives kinds s t → IsShown f Homes Lives kinds s' t
shown_moved f Homes Lives kinds s s' t same whole h = record {
  objects = λ x g a l. subst (λ z. Stands f g z t) (sym (same x l)) (h.objects x g a l);
  kinds = λ x word a l. subst (λ (z : Object). z.kind ≡ kinds.types x) (sym (same x l)) (h.kinds x word a l);
  whole = λ x w. subst IsWhole (sym (whole x w)) (h.whole x w);
  fits = λ x o d l. subst (λ (z : Object). (z.kind ≡ o.kind) × (z.lengths ≡ o.lengths)) (sym (same x l)) (h.fits x o d l);
}

module _ (p : CoreProgramTree) (sound : IsProgramSound p) (f : Frame) (file : List Home) (file_variables : ℕ) where
  -- What is known of a call that is under way: it is one of a function of the program, and no object of a later call is there yet.
  pub record IsCaller (here : Here) (c : Call) (S : Setting) (Homes0 : Spot → Home → Type 0) (Lives0 : Spot → Type 0) (kinds : Known) : Type 0 where
    pub of_file : c.file ≡ file
    pub of_variables : c.file_variables ≡ file_variables
    pub is_file : S.file ≡ p.file
    pub is_functions : S.functions ≡ p.functions
    pub frames : (x : Spot) (h : Home) → Homes0 x h → x.frame ≤ here.frame
    pub lives : (x : Spot) → Lives0 x → x.frame ≤ here.frame
    pub whole : (x : Spot) → kinds.Whole x → x.frame ≤ here.frame

  module _ (here : Here) (c : Call) (S : Setting) (Homes0 : Spot → Home → Type 0) (Lives0 : Spot → Type 0) (kinds : Known) (fresh_ base : ℕ) (frame : IsFrame f here c S Homes0 Lives0 kinds fresh_ base) (caller : IsCaller here c S Homes0 Lives0 kinds) (r : Reach) (seen : ℕ → Option ArrayId) (st0 : State) (scene : IsScene f c S Homes0 base r seen st0)
      (callee : ℕ) (fn : CoreFunctionTree) (is : slice_get p.functions callee ≡ Some fn) (args : ArgumentTrees) (takes : TakesAll S r (take fn.params fn.objects) args) (gs : List Given) (hs : List e.Given) (at : Place) (st : State) (over : IsOver c base (length st0.arrays) (seen_cell seen) st) where
    abbrev pub Homes : Spot → Home → Type 0
    Homes = HomesIn here c Homes0 Lives0 seen

    abbrev pub Lives : Spot → Type 0
    Lives = LivesIn here c Homes0 Lives0 r

    abbrev pub h1 : Part (List Home)
    h1 = homes_for fn hs st

    abbrev pub h2 : Part CallId
    h2 = next_call h1.state

    abbrev pub h3 : Part (Option VarId)
    h3 = fresh_result fn.result h2.state

    abbrev pub c1 : Call
    c1 = within c fn h1.value (c.path ++ at ∷ []) h2.value h3.value

    abbrev pub here1 : Here
    here1 = rs.here_in fn gs (suc here.frame) (here.path ++ at ∷ [])

    abbrev pub S1 : Setting
    S1 = setting_at p sound callee fn

    abbrev pub kinds1 : Known
    kinds1 = known_in kinds (suc here.frame) fn.objects

    abbrev pub base1 : ℕ
    base1 = length h3.state.variables

    abbrev pub Gives : Store → Type 0
    Gives t = AreGiven f here (objects_in S r) Homes Lives (length st.variables) args gs hs t

    pub lives_low : (x : Spot) → Lives x → x.frame ≤ here.frame
    lives_low x l = elim l [ inl b ↦ caller.lives x b | inr b ↦ (let q = ap (λ (z : Spot). z.frame) b.1 in omega (arith, q)) ]

    pub homes_low : (x : Spot) (h : Home) → Homes x h → x.frame ≤ here.frame
    homes_low x h a = elim a [ inl b ↦ caller.frames x h b | inr b ↦ (let q = ap (λ (z : Spot). z.frame) b.1 in omega (arith, q)) ]

    pub apart_lives1 : (x : Spot) → Lives x → x.frame ≡ suc here.frame → ⊥
    apart_lives1 x l e1 = (let le = lives_low x l in omega (arith, le, e1))

    own_made : AreOwn (length st.variables) (length st.slots) h1.value h1.state
    own_made = homes_own (length st.variables) (length st.slots) fn hs st (le_refl (length st.variables)) (le_refl (length st.slots))

    fs : IsFunctionSound S1 fn
    fs = sound.functions callee fn is

    pub homes_there : (t : Store) → Gives t → HomesMade fn hs st
    homes_there t given =
        let q = shaped_of fn.objects fn.params args hs fs.params (taken_of S r (take fn.params fn.objects) args takes) (given_shape f here S r Homes Lives (length st.variables) t args gs hs given) in
        homes_made fn hs st fs.params q.0 q.1

    homes_later : IsLater st h1.state
    homes_later = (homes_fine f (λ t. Unit {0}) 0 (λ i le t x u. tt) fn hs st (omega arith)).later

    result_there : ResultMade fn.result h2.state
    result_there = result_made fn.result h2.state

    pub all_later : IsLater st h3.state
    all_later = later_both st h1.state h3.state homes_later (later_both h1.state h2.state h3.state (call_later h1.state) result_there.later)

    pub behind_homes : IsLater h1.state h3.state
    behind_homes = later_both h1.state h2.state h3.state (call_later h1.state) result_there.later

    file_more : (i : ℕ) (o : FileObjectTree) → FileStands f kinds c Homes0 i o → FileStands f kinds1 c1 Homes i o
    file_more i o h = elim h [
      | inl q ↦ inl (q.0, elim q.1 [ inl b ↦ inl (b.0, b.1, inl b.2, b.3) | inr b ↦ inr (b.0, b.1, b.2, inl b.3, b.4, b.5) ])
      | inr q ↦ inr (q.0, q.1, q.2, inl q.3, q.4)
    ]

    spot_past : (i : ℕ) → fn.params ≤ i → here1.spots i ≡ spot (suc here.frame) i
    spot_past i le = ap (spot_given (suc here.frame) i) (taken_past fn.params gs i le)

    spot_scalar : (t : Store) (given : Gives t) (i : ℕ) (o : CoreObjectTree) → slice_get fn.objects i ≡ Some o → IsScalar o → here1.spots i ≡ spot (suc here.frame) i
    spot_scalar t given i o e1 is_scalar = elim (cases_lt i fn.params) [
      | inl lt ↦ elim (given_at f here S r Homes Lives (length st.variables) t (take fn.params fn.objects) args gs hs takes given i o (get_taken fn.params fn.objects i lt ∙ e1)) [
        | inl w ↦ ap (spot_given (suc here.frame) i) (get_taken fn.params gs i lt ∙ w.3)
        | inr w ↦ absurd (w.0 is_scalar)
      ]
      | inr ge ↦ spot_past i ge
    ]

    own_stands : (t : Store) (given : Gives t) → IsWithin h1.state f → (i : ℕ) (o : CoreObjectTree) → slice_get fn.objects i ≡ Some o → OwnStands f here1 c1 S1 Homes Lives i o
    own_stands t given inside i o e1 =
        let made = homes_there t given in
        elim (made.stand i o e1) [
          | inl q ↦ inl (q.0, q.1, q.2, ap type_of (inside.variables q.1.0 o.kind q.3), spot_scalar t given i o e1 q.0)
          | inr q ↦ elim q [
            | inl b ↦ elim (given_at f here S r Homes Lives (length st.variables) t (take fn.params fn.objects) args gs hs takes given i o (get_taken fn.params fn.objects i b.1 ∙ e1)) [
              | inl w ↦ absurd (b.0 w.0)
              | inr w ↦
                  let there : here1.spots i ≡ w.1 = ap (spot_given (suc here.frame) i) (get_taken fn.params gs i b.1 ∙ w.3) in
                  let home_ : slice_get h1.value i ≡ Some (home.Array w.2) = made.begins i (home.Array w.2) (subst (λ z. slice_get (parameters fn.objects hs [] st).value z ≡ Some (home.Array w.2)) (nothing_before i) (array_home fn.objects hs [] st i o w.2 e1 w.4)) in
                  inr (inl (b.0, b.1, w.2, home_, subst (λ z. Homes z (home.Array w.2)) (sym there) w.5, subst Lives (sym there) w.6, w.7))
            ]
            | inr b ↦ inr (inr b)
          ]
        ]

    pub frame1 : (t : Store) → Gives t → IsWithin h3.state f → IsFrame f here1 c1 S1 Homes Lives kinds1 (length st.variables) base1
    frame1 t given inside =
        let low = over.low in
        let more = all_later.more in
        let behind_ = behind_homes.more in
        let inside1 = within_before h1.state h3.state f behind_homes inside in
        record {
          path = ap (λ z. z ++ at ∷ []) frame.path;
          file_low = (let a = frame.file_low in let b = frame.low in omega (arith, a, b, low));
          low = more;
          apart = apart_of f here c S Homes0 Lives0 kinds fresh_ base frame r seen st0 scene;
          below = λ x own h. (let lt = below_of f here c S Homes0 Lives0 kinds fresh_ base frame r seen st0 scene x own h in omega (arith, lt, low));
          frames = λ x h i a e1. absurd (let le = homes_low x h a in let q = ap (λ (z : Spot). z.frame) e1 in omega (arith, le, q));
          lives = λ x i l e1. absurd (let le = lives_low x l in let q = ap (λ (z : Spot). z.frame) e1 in omega (arith, le, q));
          file = λ i o e1. (let q = frame.file i o (ap (λ os. slice_get os i) caller.is_file ∙ e1) in (file_more i o q.0, inl q.1));
          file_names = frame.file_names;
          file_bounded = λ i own e1. (let lt = frame.file_bounded i own e1 in let b = frame.low in omega (arith, lt, b, low));
          file_slots = frame.file_slots;
          own = own_stands t given inside1;
          own_names = own_made.names;
          own_bounded = λ i own e1. (let q = own_made.variables i own e1 in (q.0, let lt = q.1 in omega (arith, lt, behind_)));
          own_slots = own_made.place_names;
          spots = spot_past;
          objects = refl;
          call_objects = refl;
          result = refl;
          set = λ kd e1. (
              let q = result_there.some_ kd e1 in
              let up = homes_later.more in
              let up1 = (call_later h1.state).more in
              (variable_number (length h2.state.variables), q.0, omega (arith, up, up1), q.2, ap type_of (inside.variables (length h2.state.variables) kd q.1)));
          whole = λ i le w. (let le1 = caller.whole (spot (suc here.frame) i) w in omega (arith, le1));
          declared = λ i o d. elim d [ inl q ↦ q.1 | inr q ↦ absurd (q.0 refl) ];
          declares = λ i o le e1. inl (refl, e1);
        }

    pub caller1 : IsCaller here1 c1 S1 Homes Lives kinds1
    caller1 = record {
      of_file = caller.of_file;
      of_variables = caller.of_variables;
      is_file = refl;
      is_functions = refl;
      frames = λ x h a. (let le = homes_low x h a in omega (arith, le));
      lives = λ x l. (let le = lives_low x l in omega (arith, le));
      whole = λ x w. (let le = caller.whole x w in omega (arith, le));
    }

    pub scene1 : IsScene f c1 S1 Homes base1 (at_start S1) nothing_seen h3.state
    scene1 =
        let more_arrays = all_later.more_arrays in
        let over_arrays = over.arrays in
        let more_slots = behind_homes.more_slots in
        let numbers = call_calls h1.state in
        let result_calls = result_there.later.calls in
        record {
          low = le_refl base1;
          called = (let a = numbers.0 in let b = numbers.1 in omega (arith, a, b, result_calls));
          slots = λ i slot e1. (let lt = (own_made.places i slot e1).1 in omega (arith, lt, more_slots));
          noted = λ i slot a e1 z. absurd (none-some a z);
          arrays = λ x a h. elim h [
            | inl b ↦ (let lt = scene.arrays x a b in omega (arith, lt, over_arrays, more_arrays))
            | inr b ↦ (let lt = scene.seen_low b.0 a (own_array (seen b.0) (slice_get c.homes b.0) a b.2) in omega (arith, lt, over_arrays, more_arrays))
          ];
          seen_low = λ i a z. absurd (none-some a z);
          seen_apart = λ x a i b h z. absurd (none-some b z);
          seen_own = λ i j a b z z' e1. absurd (none-some a z);
          seen_fits = λ i a o z e1. absurd (none-some a z);
          ready = λ i slot e1 z. absurd z;
          unready = λ i a z. absurd (none-some a z);
        }

    -- ---- stores

    abbrev pub stored : Cells → Cells
    stored s = rs.parameters (suc here.frame) 0 (take fn.params fn.objects) gs s

    pub sets : (t : Store) → Gives t → IsTyped f t → IsWithin h1.state f → AreSet f fn.objects hs [] st t t
    sets t given typed inside =
        parameters_set f fn.objects hs [] st (length st.variables) t t (le_refl (length st.variables)) (given_ready f here S r Homes Lives (length st.variables) t args gs hs given) (record { variables = λ i lt. refl; elements = λ a i. refl }) typed
        (within_before (parameters fn.objects hs [] st).state h1.state f (homes_behind f fn hs st) inside)

    pub relates1 : (s : Cells) (t : Store) (given : Gives t) (typed : IsTyped f t) (inside : IsWithin h3.state f) (set_ : AreSet f fn.objects hs [] st t t) → IsShown f Homes Lives kinds s t → Relates f here1 c1 Homes Lives kinds1 (at_start S1) nothing_seen (stored s) set_.after
    relates1 s t given typed inside set_ shown =
        let low = over.low in
        let made = homes_there t given in
        let put_ = parameters_stored (suc here.frame) 0 (take fn.params fn.objects) gs s in
        let frame_ = frame1 t given inside in
        let shown1 = shown_apart f Homes Lives kinds (length st.variables) s t set_.after frame_.below set_.agrees.variables set_.agrees.elements shown in
        let shown2 = shown_moved f Homes Lives kinds s (stored s) set_.after (λ x l. put_.elsewhere x (apart_lives1 x l)) (λ x w. put_.elsewhere x (λ e1. (let le = caller.whole x w in omega (arith, le, e1)))) shown1 in
        relates_started f here1 c1 S1 Homes Lives kinds1 (length st.variables) base1 frame_ (stored s) set_.after (shown_in f Homes Lives kinds (suc here.frame) fn.objects apart_lives1 (stored s) set_.after shown2) set_.typed
        (λ i o e1 is_scalar lt. elim (given_at f here S r Homes Lives (length st.variables) t (take fn.params fn.objects) args gs hs takes given i o (get_taken fn.params fn.objects i lt ∙ e1)) [
          | inl w ↦
              let q = set_.held i o w.2 w.1 e1 w.4 w.5 in (
                convert o.kind w.1,
                subst (λ z. stored s (spot (suc here.frame) z) ≡ scalar o.kind (convert o.kind w.1)) (nothing_before i) (put_.held i o w.1 (get_taken fn.params fn.objects i lt ∙ e1) w.3),
                λ own e2. ap (λ (z : VarId). set_.after.variables z.0) (same_variable own q.0 (sym e2 ∙ made.begins i (home.Variable q.0) (subst (λ z. slice_get (parameters fn.objects hs [] st).value z ≡ Some (home.Variable q.0)) (nothing_before i) q.1))) ∙ q.2,
              )
          | inr w ↦ absurd (w.0 is_scalar)
        ])
