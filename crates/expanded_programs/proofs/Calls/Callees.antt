-- What the pieces of called functions keep.
use Rattle.std.proofs.Common.{◌≡◌, ℕ, zero, suc, ◌+◌, ◌<◌, ◌≤◌, inl, inr, ◌∙◌, sym, refl, ap, subst, Bool, true, false, List, [], ◌∷◌, ◌++◌, length, take, slice_get, Option, Some, None, le_refl, le_trans, arith}
use Rattle.std.proofs.lemmas.List.{length-append}
use Rattle.std.proofs.lemmas.Option.{none-some, slice_get_within}
use Rattle.hls_base.specs.declared.place.Place.{Place}
use Rattle.hls_base.specs.declared.point.Point.{Point}
use Rattle.hls_base.specs.declared.point.PointKind.TheVariants as point
use Rattle.hls_base.specs.declared.number.VarId.{VarId}
use Rattle.c_token.specs.declared.ctype.CType.{CType}
use Rattle.pieces.specs.declared.resolved.expression.Scope.{Scope}
use Rattle.pieces.specs.declared.resolved.expression.Scope.TheVariants as scope
use Rattle.pieces.specs.Resolved.Core as core
use Rattle.pieces.specs.Resolved.Core.{CoreTree, CoreTrees, CoreTargetTree, ArgumentTree, ArgumentTrees, CoreObjectTree, FileObjectTree, CoreFunctionTree, CoreProgramTree}
use Rattle.pieces.specs.declared.piece.CallId.{CallId}
use Rattle.pieces.specs.Trees as tree
use Rattle.pieces.specs.Trees.{PureTree, PieceTree}
use Rattle.piece_making.specs.declared.frame.Home.{Home}
use Rattle.piece_making.specs.declared.frame.Home.TheVariants as home
use Rattle.piece_making.specs.Making.{State, Part, gives, then_, emit, fresh, fresh_result, next_call, variable_number}
use Rattle.piece_making.specs.Calls.{Call, homes_in, variable_in, point_in}
use Rattle.piece_making.specs.Leaving.{any_leaves}
use Rattle.c_meaning.specs.PieceRuns.Values.{Store}
use Rattle.c_meaning.specs.PieceRuns.Pieces.{Frame}
use Rattle.c_expand.specs.Expressions as e
use Rattle.c_expand.specs.Expressions.{Given, Callee}
use Rattle.c_expand.specs.Statements.{statements, marked, result_variable}
use Rattle.c_expand.specs.Expansion.{homes_for, end_of, run_through, within, value_of, opened, opened_as, calls}
use Rattle.expand_runs.specs.Growing.{IsLater, IsGrown, LandsFrom}
use Rattle.expand_runs.specs.Fitting.{HaveShape, CallsFit, AllFit, ArgumentFits, ArgumentsFit, Taken, Anything}
use Rattle.expand_runs.proofs.Growing.{grown_later, grown_both, later_same, later_fresh, last_one}
use Rattle.expand_runs.proofs.Changing.{changed_variable}
use Rattle.expand_runs.proofs.Fine.{Sets, Puts, AreAllowed, allowed_behind, lands_behind, lands_less, IsFine, fine_gives, fine_emit}
use Rattle.expand_runs.proofs.FineExpressions.{CalleesFine, CalleesKeep, any_fit, sound_fits}
use Rattle.expanded_programs.specs.Statements.Each.{InStmts, AllReturnIn}
use Rattle.expanded_programs.specs.Statements.Scopes.{Setting, Reach, IsScalar, IsArray, VariableIn, TakesAll, objects_in, enter, Among}
use Rattle.expanded_programs.proofs.StatementsLemmas.SoundEach.{sounds_each, sounds_return}
use Rattle.expanded_programs.proofs.StatementsLemmas.FineStatements.{Keeps, keeps_fine, statements_keep, May, MayDeclare}
use Rattle.expanded_programs.specs.Calls.Programs.{setting_of, at_start, IsProgramSound}
use Rattle.expanded_programs.proofs.Calls.Homes.{AreShaped, HomesMade, homes_fine, homes_own, homes_made}
use Rattle.expanded_programs.proofs.Calls.Owning.{AreOwn}

-- ---- calls whose arguments fit

abbrev pub AreTaken : List CoreObjectTree → ArgumentTrees → Type 0
AreTaken [] core.no_argument = Unit {0}
AreTaken (o ∷ os) (core.more_arguments (core.given v) rest) = IsScalar o × AreTaken os rest
AreTaken (o ∷ os) (core.more_arguments (core.array cell) rest) = IsArray o × AreTaken os rest
AreTaken os args = ⊥

pub taken_of : (S : Setting) (r : Reach) (os : List CoreObjectTree) (args : ArgumentTrees) → TakesAll S r os args → AreTaken os args
taken_of S r [] core.no_argument h = tt
taken_of S r [] (core.more_arguments first rest) h = absurd h
taken_of S r (o ∷ os) core.no_argument h = absurd h
taken_of S r (o ∷ os) (core.more_arguments (core.given v) rest) h = (h.0, taken_of S r os rest h.1)
taken_of S r (o ∷ os) (core.more_arguments (core.array cell) rest) h = (h.0, taken_of S r os rest h.2)

-- what is given for the first objects
pub shaped_of : (objects : List CoreObjectTree) (n : ℕ) (args : ArgumentTrees) (given : List Given) → n ≤ length objects → AreTaken (take n objects) args → HaveShape args given → AreShaped objects given × (length given ≡ n)
shaped_of objects zero core.no_argument [] le h g = (tt, refl)
shaped_of objects zero core.no_argument (x ∷ given) le h g = absurd g
shaped_of objects zero (core.more_arguments first rest) given le h g = absurd h
shaped_of [] (suc n) args given le h g = absurd (omega (arith, le))
shaped_of (o ∷ os) (suc n) core.no_argument given le h g = absurd h
shaped_of (o ∷ os) (suc n) (core.more_arguments (core.given v) rest) [] le h g = absurd g
shaped_of (o ∷ os) (suc n) (core.more_arguments (core.array cell) rest) [] le h g = absurd g
shaped_of (o ∷ os) (suc n) (core.more_arguments (core.given v) rest) (e.value_given x ∷ given) le h g =
    (let q = shaped_of os n rest given (omega (arith, le)) h.1 g in ((h.0, q.0), ap suc q.1))
shaped_of (o ∷ os) (suc n) (core.more_arguments (core.array cell) rest) (e.array_given a ∷ given) le h g =
    (let q = shaped_of os n rest given (omega (arith, le)) h.1 g in ((h.0, q.0), ap suc q.1))
shaped_of (o ∷ os) (suc n) (core.more_arguments (core.given v) rest) (e.array_given a ∷ given) le h g = absurd g
shaped_of (o ∷ os) (suc n) (core.more_arguments (core.array cell) rest) (e.value_given x ∷ given) le h g = absurd g

-- calls of another kind
module _ (F G : ℕ → ArgumentTrees → Type 0) (more : (callee : ℕ) (args : ArgumentTrees) → F callee args → G callee args) where
  mutual
    pub fits_more : (e : CoreTree) → CallsFit F e → CallsFit G e
    fits_more (core.number value k) h = tt
    fits_more (core.scalar cell k at) h = tt
    fits_more (core.element array subscripts k at) h = all_more subscripts h
    fits_more (core.call callee args k at) h = (more callee args h.0, arguments_more args h.1)
    fits_more (core.unary op arg k at) h = fits_more arg h
    fits_more (core.binary op left right k at) h = (fits_more left h.0, fits_more right h.1)
    fits_more (core.choice test left right k at colon) h = (fits_more test h.0, fits_more left h.1, fits_more right h.2)
    fits_more (core.cast to arg) h = fits_more arg h
    fits_more (core.assign (core.target cell subscripts k place) op v at) h = (all_more subscripts h.0, fits_more v h.1)
    fits_more (core.bump (core.target cell subscripts k place) up post at) h = all_more subscripts h
    fits_more (core.comma left right) h = (fits_more left h.0, fits_more right h.1)

    all_more : (xs : CoreTrees) → AllFit F xs → AllFit G xs
    all_more core.none h = tt
    all_more (core.more first rest) h = (fits_more first h.0, all_more rest h.1)

    argument_more : (a : ArgumentTree) → ArgumentFits F a → ArgumentFits G a
    argument_more (core.given v) h = fits_more v h
    argument_more (core.array cell) h = tt

    arguments_more : (args : ArgumentTrees) → ArgumentsFit F args → ArgumentsFit G args
    arguments_more core.no_argument h = tt
    arguments_more (core.more_arguments first rest) h = (argument_more first h.0, arguments_more rest h.1)

-- ---- the result's variable

pub record ResultMade (r : Option CType) (s : State) : Type 0 where
  pub pieces : (fresh_result r s).pieces ≡ []
  pub later : IsLater s (fresh_result r s).state
  pub none_ : r ≡ None → (fresh_result r s).value ≡ None
  pub some_ : (k : CType) → r ≡ Some k → ((fresh_result r s).value ≡ Some (variable_number (length s.variables))) × (slice_get (fresh_result r s).state.variables (length s.variables) ≡ Some k) × (length s.variables < length (fresh_result r s).state.variables)

pub result_made : (r : Option CType) (s : State) → ResultMade r s
unfolding fresh_result then_ fresh
result_made None s = record { pieces = refl; later = later_same s; none_ = λ e. refl; some_ = λ k e. absurd (none-some k e) }
result_made (Some k) s = record {
  pieces = refl;
  later = later_fresh k s;
  none_ = λ e. absurd (none-some k (sym e));
  some_ = λ k1 e. (refl, last_one s.variables k ∙ e, let z = length-append s.variables (k ∷ []) in omega (arith, z));
}

call_variables : (s : State) → length (next_call s).state.variables ≡ length s.variables
unfolding next_call
call_variables s = refl

-- ---- functions that are opened

module _ (f : Frame) (I : Store → Type 0) (low : ℕ) (own : (i : ℕ) → low ≤ i → Sets f I i) (g : Callee) (fn : CoreFunctionTree) (given : List Given) (c : Call) (at : Place) (s : State) where
  -- the slots that were there
  abbrev pub Before : ℕ → Type 0
  Before i = i < length s.slots

  -- The ends of calls are those of this call and of later ones.
  record Makes {A : Type 0} (s1 : State) (part : Part A) : Type 0 where
    grown : IsGrown Before s1 part.state
    allowed : AreAllowed f I part.pieces
    lands : LandsFrom s.calls part.pieces

  makes_then : {A B : Type 0} (s1 : State) (first : Part A) (next : A → State → Part B) → Makes s1 first → Makes first.state (next first.value first.state) → Makes s1 (then_ first next)
  unfolding then_
  makes_then s1 first next h k = record {
    grown = grown_both Before s1 first.state (next first.value first.state).state h.grown k.grown;
    allowed = allowed_behind f I first.pieces (next first.value first.state).pieces h.allowed k.allowed;
    lands = lands_behind s.calls first.pieces (next first.value first.state).pieces h.lands k.lands;
  }

  makes_keeps : {A : Type 0} (s1 : State) (part : Part A) → s.calls ≤ s1.calls → Keeps f I Before s1 part → Makes s1 part
  makes_keeps s1 part le h = record { grown = h.grown; allowed = h.allowed; lands = lands_less s.calls s1.calls le part.pieces h.lands }

  makes_fine : {A : Type 0} (s1 : State) (part : Part A) → s.calls ≤ s1.calls → IsFine f I s1 part → Makes s1 part
  makes_fine s1 part le h = makes_keeps s1 part le (keeps_fine f I Before s1 part h)

  call_makes : (s1 : State) → Makes s1 (next_call s1)
  unfolding next_call
  call_makes s1 = record {
    grown = record { variables = λ i x e. e; more = le_refl _; arrays = λ i x e. e; more_arrays = le_refl _; slots = λ i x p e. e; more_slots = le_refl _; calls = omega arith };
    allowed = tt;
    lands = tt;
  }

  call_number : (s1 : State) → (next_call s1).value.0 ≡ s1.calls
  unfolding next_call
  call_number s1 = refl

  result_makes : (r : Option CType) (s1 : State) → Makes s1 (fresh_result r s1)
  result_makes r s1 =
      let q = result_made r s1 in
      record { grown = grown_later Before s1 (fresh_result r s1).state q.later; allowed = subst (AreAllowed f I) (sym q.pieces) tt; lands = subst (LandsFrom s.calls) (sym q.pieces) tt }

  end_makes : (b : Bool) (call : CallId) (p : Point) (s1 : State) → s.calls ≤ call.0 → Makes s1 (emit (end_of b call p) s1)
  unfolding emit
  end_makes true call p s1 le = record { grown = record { variables = λ i x e. e; more = le_refl _; arrays = λ i x e. e; more_arrays = le_refl _; slots = λ i x q e. e; more_slots = le_refl _; calls = le_refl _ }; allowed = (tt, tt); lands = (le, tt) }
  end_makes false call p s1 le = record { grown = record { variables = λ i x e. e; more = le_refl _; arrays = λ i x e. e; more_arrays = le_refl _; slots = λ i x q e. e; more_slots = le_refl _; calls = le_refl _ }; allowed = (tt, tt); lands = (tt, tt) }

  -- the call that is opened, in the states where its parts are made
  abbrev pub homes_here : Part (List Home)
  homes_here = homes_for fn given s

  abbrev pub call_here : Part CallId
  call_here = next_call homes_here.state

  abbrev pub result_here : Part (Option VarId)
  result_here = fresh_result fn.result call_here.state

  abbrev pub inner : Call
  inner = within c fn homes_here.value (c.path ++ at ∷ []) call_here.value result_here.value

  -- What is made of the call keeps what it may, and what is made of the body only grows.
  pub record Opened : Type 0 where
    pub fine : IsFine f I s (opened g fn given c at s)
    pub grown : IsGrown Before result_here.state (run_through g inner fn result_here.state).state

  pub opened_made : (F : ℕ → ArgumentTrees → Type 0) (callees : CalleesFine f I low own g inner F) (file : (i : ℕ) → i < inner.file_variables → Sets f I i) (puts : Puts f I) → low ≤ length s.variables
      → AllReturnIn (Sets f I (result_variable inner.result).0) fn.body → InStmts (May f I Before low own g inner F callees file puts) (MayDeclare f I Before low own g inner F callees file puts) fn.body → Opened
  opened_made F callees file puts le returns each =
      let h1 = makes_fine s homes_here (le_refl s.calls) (homes_fine f I low own fn given s le) in
      let h2 = call_makes homes_here.state in
      let h3 = result_makes fn.result call_here.state in
      let s3 = result_here.state in
      let up1 = h1.grown.calls in
      let up2 = h2.grown.calls in
      let up3 = h3.grown.calls in
      let begin_ = marked inner point.Begin fn.at s3 in
      let h4 = makes_fine s3 begin_ (omega (arith, up1, up2, up3)) (fine_emit f I (tree.mark (point_in inner point.Begin fn.at)) s3 tt tt) in
      let up4 = h4.grown.calls in
      let body = statements g inner fn.body true begin_.state in
      let low4 : low ≤ length begin_.state.variables = (let a = h1.grown.more in let b = h2.grown.more in let d = h3.grown.more in let e1 = h4.grown.more in omega (arith, le, a, b, d, e1)) in
      let h5 = makes_keeps begin_.state body (omega (arith, up1, up2, up3, up4)) (statements_keep f I Before low own g inner F callees file puts fn.body true begin_.state low4 returns each) in
      let number = call_number homes_here.state in
      let h6 = end_makes (any_leaves fn.body true) inner.call (point_in inner point.End fn.at) body.state (omega (arith, up1, number)) in
      let run = run_through g inner fn s3 in
      let h7 = makes_then s3 begin_ (λ u s4. then_ (statements g inner fn.body true s4) (λ v s5. emit (end_of (any_leaves fn.body true) inner.call (point_in inner point.End fn.at)) s5)) h4
      (makes_then begin_.state body (λ v s5. emit (end_of (any_leaves fn.body true) inner.call (point_in inner point.End fn.at)) s5) h5 h6) in
      let up7 = h7.grown.calls in
      let h8 = makes_fine run.state (gives (value_of result_here.value fn.result) run.state) (omega (arith, up1, up2, up3, up7)) (fine_gives f I (value_of result_here.value fn.result) run.state) in
      let whole = makes_then s homes_here (λ homes s1. then_ (next_call s1) (λ call s2. then_ (fresh_result fn.result s2) (λ own1 s4. then_ (run_through g (within c fn homes (c.path ++ at ∷ []) call own1) fn s4) (λ u s5. gives (value_of own1 fn.result) s5)))) h1
      (makes_then homes_here.state call_here (λ call s2. then_ (fresh_result fn.result s2) (λ own1 s4. then_ (run_through g (within c fn homes_here.value (c.path ++ at ∷ []) call own1) fn s4) (λ u s5. gives (value_of own1 fn.result) s5))) h2
      (makes_then call_here.state result_here (λ own1 s4. then_ (run_through g (within c fn homes_here.value (c.path ++ at ∷ []) call_here.value own1) fn s4) (λ u s5. gives (value_of own1 fn.result) s5)) h3
      (makes_then s3 run (λ u s5. gives (value_of result_here.value fn.result) s5) h7 h8))) in
      record {
        fine = record {
          later = record {
            variables = whole.grown.variables;
            more = whole.grown.more;
            arrays = whole.grown.arrays;
            more_arrays = whole.grown.more_arrays;
            slots = λ i x e1. whole.grown.slots i x (slice_get_within s.slots i x e1) e1;
            more_slots = whole.grown.more_slots;
            calls = whole.grown.calls;
          };
          allowed = whole.allowed;
          lands = whole.lands;
        };
        grown = h7.grown;
      }

-- ---- calls of the functions of a program

module _ (p : CoreProgramTree) (sound : IsProgramSound p) where
  -- the setting of the function with this number
  abbrev pub setting_at : ℕ → CoreFunctionTree → Setting
  setting_at i fn = setting_of p (λ j. sound.rank j < sound.rank i) fn

  abbrev pub Fits : ℕ → ArgumentTrees → Type 0
  Fits callee args = (fn : CoreFunctionTree) × (slice_get p.functions callee ≡ Some fn) × AreTaken (take fn.params fn.objects) args

  -- The variables of file scope have the first numbers.
  abbrev pub FileFirst : List Home → ℕ → Type 0
  FileFirst file n = (i : ℕ) (o : FileObjectTree) → slice_get p.file i ≡ Some o → IsScalar o.object → o.object.constant ≡ false → (own : VarId) × (slice_get file i ≡ Some (home.Variable own)) × (own.0 < n)

  module _ (f : Frame) where
    any_made : (n callee : ℕ) (fn : CoreFunctionTree) (given : List Given) (c : Call) (at : Place) (s : State) → slice_get p.functions callee ≡ Some fn
        → ((c1 : Call) → CalleesFine f (λ t. Unit {0}) 0 (λ i le t x u. tt) (calls p.functions n) c1 Anything) → Opened f (λ t. Unit {0}) 0 (λ i le t x u. tt) (calls p.functions n) fn given c at s
    any_made n callee fn given c at s is h =
        let I = λ (t : Store). Unit {0} in
        let own : (i : ℕ) → 0 ≤ i → Sets f I i = λ i le t x u. tt in
        let g = calls p.functions n in
        let k = inner f I 0 own g fn given c at s in
        let callees = h k in
        let file : (i : ℕ) → i < k.file_variables → Sets f I i = λ i lt t x u. tt in
        let puts : Puts f I = λ t a i x u. tt in
        let S = setting_at callee fn in
        let fs = sound.functions callee fn is in
        let r = enter fn.outermost (at_start S) in
        let made = homes_own (length s.variables) (length s.slots) fn given s (le_refl (length s.variables)) (le_refl (length s.slots)) in
        opened_made f I 0 own g fn given c at s Anything callees file puts (omega arith)
        (sounds_return S (Sets f I (result_variable k.result).0) (λ kd e1 t x u. tt) fn.body r (λ i. Among fn.outermost i) false false false fs.body)
        (sounds_each S (May f I (Before f I 0 own g fn given c at s) 0 own g k Anything callees file puts) (MayDeclare f I (Before f I 0 own g fn given c at s) 0 own g k Anything callees file puts) r
        (λ r1 e1 h1. (any_fit e1, λ x d t y u. tt))
        (λ r1 i over le no_. ((λ slot e1 lt. (let q = (made.places i slot e1).0 in omega (arith, lt, q))), λ name e1 t x u. tt))
        fn.body r (λ i. Among fn.outermost i) false false false (λ j a. a) fs.body)

    any_opened : (n callee : ℕ) (at_callee : Option CoreFunctionTree) (given : List Given) (c : Call) (at : Place) (s : State) → slice_get p.functions callee ≡ at_callee
        → ((c1 : Call) → CalleesFine f (λ t. Unit {0}) 0 (λ i le t x u. tt) (calls p.functions n) c1 Anything) → IsFine f (λ t. Unit {0}) s (opened_as at_callee (calls p.functions n) given c at s)
    any_opened n callee None given c at s is h = fine_gives f (λ t. Unit {0}) None s
    any_opened n callee (Some fn) given c at s is h = (any_made n callee fn given c at s is h).fine

    pub any_fine : (n : ℕ) (c : Call) → CalleesFine f (λ t. Unit {0}) 0 (λ i le t x u. tt) (calls p.functions n) c Anything
    any_fine zero c callee args given at s fit shape le file puts = fine_gives f (λ t. Unit {0}) None s
    any_fine (suc n) c callee args given at s fit shape le file puts = any_opened n callee (slice_get p.functions callee) given c at s refl (λ c1. any_fine n c1)

    -- what is made of the body of a function only grows
    pub opened_grown : (n callee : ℕ) (fn : CoreFunctionTree) (given : List Given) (c : Call) (at : Place) (s : State) → slice_get p.functions callee ≡ Some fn → Opened f (λ t. Unit {0}) 0 (λ i le t x u. tt) (calls p.functions n) fn given c at s
    opened_grown n callee fn given c at s is = any_made n callee fn given c at s is (λ c1. any_fine n c1)

    -- So is that of the top function.
    pub run_grown : (n i : ℕ) (fn : CoreFunctionTree) (c : Call) (s : State) → slice_get p.functions i ≡ Some fn → IsGrown (λ j. ⊥) s (run_through (calls p.functions n) c fn s).state
    unfolding then_ emit
    run_grown n i fn c s is =
        let I = λ (t : Store). Unit {0} in
        let own : (j : ℕ) → 0 ≤ j → Sets f I j = λ j le t x u. tt in
        let g = calls p.functions n in
        let callees = any_fine n c in
        let file : (j : ℕ) → j < c.file_variables → Sets f I j = λ j lt t x u. tt in
        let puts : Puts f I = λ t a j x u. tt in
        let S = setting_at i fn in
        let fs = sound.functions i fn is in
        let r = enter fn.outermost (at_start S) in
        let s1 = record s { made = s.made + 1 } in
        let k = statements_keep f I (λ j. ⊥) 0 own g c Anything callees file puts fn.body true s1 (omega arith)
        (sounds_return S (Sets f I (result_variable c.result).0) (λ kd e1 t x u. tt) fn.body r (λ j. Among fn.outermost j) false false false fs.body)
        (sounds_each S (May f I (λ j. ⊥) 0 own g c Anything callees file puts) (MayDeclare f I (λ j. ⊥) 0 own g c Anything callees file puts) r
        (λ r1 e1 h1. (any_fit e1, λ x d t y u. tt)) (λ r1 j over le no_. ((λ slot e1 b. b), λ name e1 t x u. tt)) fn.body r (λ j. Among fn.outermost j) false false false (λ j a. a) fs.body) in
        record { variables = k.grown.variables; more = k.grown.more; arrays = k.grown.arrays; more_arrays = k.grown.more_arrays; slots = λ j x b e1. absurd b; more_slots = k.grown.more_slots; calls = k.grown.calls }

    module _ (file : List Home) (file_variables : ℕ) (first : FileFirst file file_variables) (I : Store → Type 0) (low : ℕ) (own : (i : ℕ) → low ≤ i → Sets f I i) where
      -- what a sound expression changes is a variable of the call or of file scope
      changes_set : (fn : CoreFunctionTree) (S : Setting) (r : Reach) (given : List Given) (s : State) (c : Call) → S.file ≡ p.file → S.objects ≡ fn.objects → c.file ≡ file → c.homes ≡ (homes_for fn given s).value → HomesMade fn given s
          → AreOwn (length s.variables) (length s.slots) (homes_for fn given s).value (homes_for fn given s).state → low ≤ length s.variables → ((i : ℕ) → i < file_variables → Sets f I i)
          → (sc : Scope) (i : ℕ) (k : CType) → VariableIn S r sc i k → Sets f I (variable_in (slice_get (homes_in c sc) i)).0
      changes_set fn S r given s c is_file is_objects of_file of_homes made owned le sets scope.File i k h =
          let q = first i h.0 (ap (λ os. slice_get os i) (sym is_file) ∙ h.1) h.2 h.4 in
          subst (λ z. Sets f I (variable_in z).0) (sym (ap (λ hs. slice_get hs i) of_file ∙ q.1)) (sets q.0.0 q.2)
      changes_set fn S r given s c is_file is_objects of_file of_homes made owned le sets scope.Call i k h = elim (made.stand i h.0 (ap (λ os. slice_get os i) (sym is_objects) ∙ h.1)) [
        | inl q ↦ subst (λ z. Sets f I (variable_in z).0) (sym (ap (λ hs. slice_get hs i) of_homes ∙ q.2)) (own q.1.0 (le_trans le (owned.variables i q.1 q.2).0))
        | inr q ↦ elim q [ inl b ↦ absurd (b.0 h.2) | inr b ↦ absurd (b.0 h.2) ]
      ]

      fit_opened : (n callee : ℕ) (fn : CoreFunctionTree) (args : ArgumentTrees) (given : List Given) (c : Call) (at : Place) (s : State) → slice_get p.functions callee ≡ Some fn → AreTaken (take fn.params fn.objects) args → HaveShape args given
          → c.file ≡ file → c.file_variables ≡ file_variables → ((i : ℕ) → i < c.file_variables → Sets f I i) → Puts f I → low ≤ length s.variables
          → ((c1 : Call) → c1.file ≡ file → c1.file_variables ≡ file_variables → CalleesFine f I low own (calls p.functions n) c1 Fits) → IsFine f I s (opened (calls p.functions n) fn given c at s)
      fit_opened n callee fn args given c at s is taken shape of_file of_variables sets puts le h =
          let g = calls p.functions n in
          let k = inner f I low own g fn given c at s in
          let callees = h k of_file of_variables in
          let S = setting_at callee fn in
          let fs = sound.functions callee fn is in
          let r = enter fn.outermost (at_start S) in
          let shaped = shaped_of fn.objects fn.params args given fs.params taken shape in
          let made = homes_made fn given s fs.params shaped.0 shaped.1 in
          let owned = homes_own (length s.variables) (length s.slots) fn given s (le_refl (length s.variables)) (le_refl (length s.slots)) in
          let sets1 = λ (i : ℕ) (lt : i < file_variables). sets i (subst (λ z. i < z) (sym of_variables) lt) in
          (opened_made f I low own g fn given c at s Fits callees sets puts le
          (sounds_return S (Sets f I (result_variable k.result).0) (λ kd e1. result_set fn given s k refl le kd e1) fn.body r (λ i. Among fn.outermost i) false false false fs.body)
          (sounds_each S (May f I (Before f I low own g fn given c at s) low own g k Fits callees sets puts) (MayDeclare f I (Before f I low own g fn given c at s) low own g k Fits callees sets puts) r
          (λ r1 e1 h1. (
            fits_more (Taken (objects_in S r1)) Fits (λ callee1 args1 t. (t.1.0, t.1.1, taken_of S r1 (take t.1.0.params t.1.0.objects) args1 t.1.4)) e1 (sound_fits (objects_in S r1) e1 h1),
            λ x d. (let v = changed_variable (objects_in S r1) x e1 h1 d in changes_set fn S r1 given s k refl refl of_file refl made owned le sets1 x.scope x.number v.0 v.1),
          ))
          (λ r1 i over le1 no_. ((λ slot e1 lt. (let q = (owned.places i slot e1).0 in omega (arith, lt, q))), λ name e1. own name.0 (le_trans le (owned.variables i name e1).0)))
          fn.body r (λ i. Among fn.outermost i) false false false (λ j a. a) fs.body)).fine
        where
          result_set : (fn : CoreFunctionTree) (given : List Given) (s : State) (k : Call) → k.result ≡ (fresh_result fn.result (next_call (homes_for fn given s).state).state).value → low ≤ length s.variables → (kd : CType) → fn.result ≡ Some kd → Sets f I (result_variable k.result).0
          result_set fn given s k is_result le kd e1 =
              let s2 = (next_call (homes_for fn given s).state).state in
              let q = (result_made fn.result s2).some_ kd e1 in
              let more = (homes_fine f I low own fn given s le).later.more in
              let same = call_variables (homes_for fn given s).state in
              subst (λ z. Sets f I (result_variable z).0) (sym (is_result ∙ q.0)) (own (length s2.variables) (omega (arith, le, more, same)))

      pub calls_fine : (n : ℕ) (c : Call) → c.file ≡ file → c.file_variables ≡ file_variables → CalleesFine f I low own (calls p.functions n) c Fits
      calls_fine zero c of_file of_variables callee args given at s fit shape le sets puts = fine_gives f I None s
      calls_fine (suc n) c of_file of_variables callee args given at s fit shape le sets puts =
          subst (λ o. IsFine f I s (opened_as o (calls p.functions n) given c at s)) (sym fit.1)
          (fit_opened n callee fit.0 args given c at s fit.1 fit.2 shape of_file of_variables sets puts le (λ c1 e1 e2. calls_fine n c1 e1 e2))

    -- Calls of the program's functions keep what they may.
    pub callees_keep : (file : List Home) (file_variables : ℕ) → FileFirst file file_variables → (S : Setting) (r : Reach) (n : ℕ) (c : Call) → S.functions ≡ p.functions → c.file ≡ file → c.file_variables ≡ file_variables → CalleesKeep f (objects_in S r) (calls p.functions n) c
    callees_keep file file_variables first S r n c is_functions of_file of_variables = record {
      any = any_fine n c;
      fine = λ I low own callee args given at s taken shape le sets puts.
          calls_fine file file_variables first I low own n c of_file of_variables callee args given at s
          (taken.1.0, ap (λ fs. slice_get fs callee) (sym is_functions) ∙ taken.1.1, taken_of S r (take taken.1.0.params taken.1.0.objects) args taken.1.4) shape le sets puts;
    }
