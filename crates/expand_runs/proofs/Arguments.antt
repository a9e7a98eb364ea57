-- The arguments of a call, one after another, and the call behind them.
use Rattle.std.proofs.Common.{◌≡◌, ℕ, ◌≤◌, ◌<◌, ◌⊎◌, inl, inr, ◌∙◌, sym, refl, ap, subst, ℤ, Bool, true, false, List, [], ◌∷◌, ◌++◌, length, Option, Some, None, le_refl, le_trans, arith}
use Rattle.std.specs.Prelude.{suc, unwrap_or}
use Rattle.std.proofs.lemmas.List.{append-nil, append_assoc}
use Rattle.hls_base.specs.declared.place.Place.{Place}
use Rattle.c_token.specs.declared.ctype.CType.{CType}
use Rattle.c_value.specs.Values.{int_type}
use Rattle.pieces.specs.declared.resolved.expression.Cell.{Cell}
use Rattle.pieces.specs.Resolved.Core as core
use Rattle.pieces.specs.Resolved.Core.{CoreTree, ArgumentTree, ArgumentTrees}
use Rattle.pieces.specs.Trees.{PureTree, PieceTree, piece_row}
use Rattle.piece_making.specs.declared.frame.Home.{Home}
use Rattle.piece_making.specs.declared.frame.Home.TheVariants as home
use Rattle.piece_making.specs.declared.effects.Effects.{Effects}
use Rattle.piece_making.specs.Acting.{effects, effects_of_arguments}
use Rattle.piece_making.specs.Making.{State, Part, gives, then_}
use Rattle.piece_making.specs.Saving.{save}
use Rattle.piece_making.specs.Calls.{Call, array, array_in}
use Rattle.hls_base.specs.Steps as Steps
use Rattle.hls_base.specs.Steps.{Ran, goes}
use Rattle.hls_base.specs.Valued.{is}
use Rattle.hls_base.specs.Same.{Same}
use Rattle.c_meaning.specs.CoreRuns.Cells.{Spot, Cells, Given, number_given, array_given, Here, spot_of}
use Rattle.c_meaning.specs.CoreRuns.Kinds.{kind_of}
use Rattle.c_meaning.specs.CoreRuns.Expressions as ce
use Rattle.c_meaning.specs.CoreRuns.Expressions.{CoreCalls, number_or_zero}
use Rattle.c_meaning.specs.PieceRuns.Values.{Store, value}
use Rattle.c_meaning.specs.PieceRuns.Pieces.{Frame, Way, on, kind_at}
use Rattle.c_expand.specs.Expressions as e
use Rattle.c_expand.specs.Expressions.{Callee, value_or_zero, expression, argument, arguments}
use Rattle.expand_runs.specs.Reading.{IsTyped, AllRead, HasTypes, UnaryFits, BinaryFits}
use Rattle.expand_runs.specs.Growing.{IsWithin, IsLater}
use Rattle.expand_runs.specs.Showing.{Known, IsShown}
use Rattle.expand_runs.specs.Sound.{Objects, IsSound, ArgumentsSound, Reads, ArgumentReads, ArgumentChanges, ArgumentsChange}
use Rattle.expand_runs.specs.Fitting.{Taken, Anything}
use Rattle.expand_runs.specs.Evaluating.{ComesOf, IsValue, Evaluated, Matters}
use Rattle.expand_runs.specs.Calling.{AreGiven, HasCalled, CallsSame}
use Rattle.expand_runs.specs.Worlds.{IsWorld, IsOver}
use Rattle.expand_runs.proofs.Growing.{within_before, later_both}
use Rattle.expand_runs.proofs.Sames.{goes_same, same_more, ended_same}
use Rattle.expand_runs.proofs.Rows.{run_of}
use Rattle.expand_runs.proofs.Holding.{pieces_hold}
use Rattle.expand_runs.proofs.Reading.{read_more}
use Rattle.expand_runs.proofs.Changing.{arguments_variable}
use Rattle.expand_runs.proofs.Fine.{AreAllowed}
use Rattle.expand_runs.proofs.FineExpressions.{CalleesKeep, given_shaped, arguments_fine, arguments_fit, sound_arguments}
use Rattle.expand_runs.proofs.Evaluating.{on_same, goes_first}
use Rattle.expand_runs.proofs.Operands.{save_well, part_permitted, sets_above, comes_below, value_more, array_there}
use Rattle.expand_runs.proofs.ExpressionParts.{Result}
use Rattle.expand_runs.proofs.PartRuns.{Does, any_later, save_later, over_later}
use Rattle.hls_base.specs.declared.number.ArrayId.{ArrayId}

module _ (unary_fits : UnaryFits) (binary_fits : BinaryFits) (f : Frame) (k : ℕ) (here : Here) (c : Call) (o : Objects) (Homes : Spot → Home → Type 0) (Lives : Spot → Type 0) (kinds : Known) (base : ℕ) (world : IsWorld f here c o Homes Lives kinds base) (cc : CoreCalls) (g : Callee) (callees : CalleesKeep f o g c) where
  pub args_later : (args : ArgumentTrees) (before : List e.Given) (st : State) → IsLater st (arguments g c args before st).state
  args_later args before st =
      (arguments_fine f (λ t. Unit {0}) 0 (λ i le t x u. tt) g c Anything callees.any args before st (omega arith) (arguments_fit args)
      (record { cells = λ x d t y u. tt; calls = λ z i lt t y u. tt; puts = λ z t a i y u. tt })).later

  -- The arguments go on, and what is given behind those before has their values.
  pub record ArgumentsDone (args : ArgumentTrees) (high : ℕ) (before hs : List e.Given) (bs gs : List Given) (s : Cells) (w : Way) (t : Store) : Type 0 where
    pub done : Evaluated f Homes Lives kinds s w t
    pub ys : List e.Given
    pub vs : List Given
    pub is_given : hs ≡ before ++ ys
    pub is_values : gs ≡ bs ++ vs
    pub given : AreGiven f here o Homes Lives high args vs ys t

  abbrev ArgumentsRun : ArgumentTrees → State → Cells → Store → ℕ → List e.Given → List Given → Type 0
  ArgumentsRun args st s t n before bs =
      Same false k (ArgumentsDone args (length (arguments g c args before st).state.variables) before (arguments g c args before st).value bs) (ce.arguments cc args bs here s n) (run_of f (arguments g c args before st).pieces t n)

  pub no_argument_same : (before : List e.Given) (bs : List Given) (st : State) (s : Cells) (t : Store) (n : ℕ) → n ≤ k → IsShown f Homes Lives kinds s t → IsTyped f t → ArgumentsRun core.no_argument st s t n before bs
  no_argument_same before bs st s t n le shown typed =
      goes_same k (ArgumentsDone core.no_argument (length st.variables) before before bs) bs s on t n le (record {
        done = record { on_ = refl; shown = shown; typed = typed };
        ys = [];
        vs = [];
        is_given = sym (append-nil before);
        is_values = sym (append-nil bs);
        given = tt;
      })

  -- an array, which makes no pieces
  pub array_argument_same : (cell : Cell) (rest : ArgumentTrees) (before : List e.Given) (bs : List Given) (st : State) (s : Cells) (t : Store) (n : ℕ) → IsOver c base world.array_base world.seen st → IsShown f Homes Lives kinds s t
      → ArgumentsRun rest st s t n (before ++ e.array_given (array c cell st) ∷ []) (bs ++ array_given (spot_of here cell) ∷ [])
      → ArgumentsRun (core.more_arguments (core.array cell) rest) st s t n before bs
  unfolding then_
  array_argument_same cell rest before bs st s t n over shown h =
      let a = array c cell st in
      let part = arguments g c rest (before ++ e.array_given a ∷ []) st in
      let high = length part.state.variables in
      same_more k k (ArgumentsDone rest high (before ++ e.array_given a ∷ []) part.value (bs ++ array_given (spot_of here cell) ∷ [])) (ArgumentsDone (core.more_arguments (core.array cell) rest) high before part.value bs)
      (ce.arguments cc rest (bs ++ array_given (spot_of here cell) ∷ []) here s n) (run_of f part.pieces t n) (le_refl k)
      (λ gs s1 w t1 z. record {
        done = z.done;
        ys = e.array_given a ∷ z.ys;
        vs = array_given (spot_of here cell) ∷ z.vs;
        is_given = z.is_given ∙ append_assoc before (e.array_given a ∷ []) z.ys;
        is_values = z.is_values ∙ append_assoc bs (array_given (spot_of here cell) ∷ []) z.vs;
        given = (
          refl,
          λ kd is_array. (let q = array_there f here c o Homes Lives kinds base world cell kd st s t over.noted is_array shown in
              (subst (λ (i : ArrayId). Homes (spot_of here cell) (home.Array i)) (sym q.is_number) q.stands, q.lives, ap (λ (i : ArrayId). kind_at f.arrays i.0) q.is_number ∙ q.type)),
          z.given,
        );
      }) h

  -- a number, which is saved where later arguments have effects
  pub number_argument_same : (first : CoreTree) (rest : ArgumentTrees) (before : List e.Given) (bs : List Given) (st : State) (s : Cells) (t : Store) (n : ℕ) → ArgumentsSound o (core.more_arguments (core.given first) rest) → IsOver c base world.array_base world.seen st
      → IsWithin (arguments g c (core.more_arguments (core.given first) rest) before st).state f
      → Same false k (Does unary_fits binary_fits f k here c o Homes Lives kinds base world cc g callees true first st (expression g c first st)) (ce.expression cc true first here s n) (run_of f (expression g c first st).pieces t n)
      → ((st1 : State) (before1 : List e.Given) (bs1 : List Given) → IsOver c base world.array_base world.seen st1 → IsWithin (arguments g c rest before1 st1).state f → (s1 : Cells) (t1 : Store) (n1 : ℕ) → n1 ≤ k → IsShown f Homes Lives kinds s1 t1 → IsTyped f t1 → ArgumentsRun rest st1 s1 t1 n1 before1 bs1)
      → ArgumentsRun (core.more_arguments (core.given first) rest) st s t n before bs
  unfolding then_
  number_argument_same first rest before bs st s t n sound over within h next =
      let x = expression g c first st in
      let later = effects_of_arguments rest in
      let sv = save c.file_variables x.value later x.state in
      let part = arguments g c rest (before ++ e.value_given sv.value ∷ []) sv.state in
      let low = over.low in
      let up = any_later unary_fits binary_fits f k here c o Homes Lives kinds base world cc g callees first st in
      let up1 = save_later unary_fits binary_fits f k here c o Homes Lives kinds base world cc g callees x.value later x.state in
      let up2 = args_later rest (before ++ e.value_given sv.value ∷ []) sv.state in
      let more = up.more in
      let more1 = up1.more in
      let more2 = up2.more in
      let over1 = over_later unary_fits binary_fits f k here c o Homes Lives kinds base world cc g callees st sv.state over (later_both st x.state sv.state up up1) in
      let high = length part.state.variables in
      let within1 = within_before sv.state part.state f up2 within in
      let Q = ArgumentsDone (core.more_arguments (core.given first) rest) high before part.value bs in
      let pieces1 = x.pieces ++ (sv.pieces ++ []) in
      subst (λ zs. Same false k Q (ce.arguments cc (core.more_arguments (core.given first) rest) bs here s n) (run_of f zs t n)) (sym (append_assoc x.pieces (sv.pieces ++ []) part.pieces ∙ ap (λ zs. x.pieces ++ (zs ++ part.pieces)) (append-nil sv.pieces)))
      (on_same f k (Does unary_fits binary_fits f k here c o Homes Lives kinds base world cc g callees true first st x) Q x.pieces (sv.pieces ++ part.pieces) (ce.expression cc true first here s n) (λ v s1 n1. ce.arguments cc rest (bs ++ number_given v ∷ []) here s1 n1) t n h (λ v s1 w t1 a. a.done.on_)
      (λ v s1 w t1 n1 le a.
      let d = save_well f here c o Homes Lives kinds base world unary_fits binary_fits (λ y. Reads y first) (length st.variables) x.value (kind_of first) v later x.state s1 t1 low more a.done.shown a.done.typed (a.value tt) within1 in
      let J = λ (t2 : Store). value f.arrays sv.value t2 ≡ is v in
      let own = sets_above f here c o Homes Lives kinds base world (λ y. Reads y first) (length st.variables) (length sv.state.variables) sv.value (kind_of first) v d.after over1.low d.value in
      let keeps = (arguments_fine f J (length sv.state.variables) own g c (Taken o) (callees.fine J (length sv.state.variables) own) rest (before ++ e.value_given sv.value ∷ []) sv.state (le_refl (length sv.state.variables)) (sound_arguments o rest sound.1)
      (part_permitted f here c o Homes Lives kinds base world (λ y. Reads y first) (λ y. ArgumentsChange y rest) later (length st.variables) (length sv.state.variables) sv.value (kind_of first) v d.after later low (le_trans more more1) d.value d.safe
      (λ y z. arguments_variable o y rest sound.1 z) sound.2 (λ z. z) (λ z. z) own)).allowed in
      let R = ArgumentsDone rest high (before ++ e.value_given sv.value ∷ []) part.value (bs ++ number_given v ∷ []) in
      goes_first f k Q sv.pieces part.pieces (ce.arguments cc rest (bs ++ number_given v ∷ []) here s1 n1) t1 d.after n1 d.goes
      (same_more k k (λ gs s2 w2 t3. R gs s2 w2 t3 × J t3) Q (ce.arguments cc rest (bs ++ number_given v ∷ []) here s1 n1) (run_of f part.pieces d.after n1) (le_refl k)
      (λ gs s2 w2 t3 z. record {
        done = z.0.done;
        ys = e.value_given sv.value ∷ z.0.ys;
        vs = number_given v ∷ z.0.vs;
        is_given = z.0.is_given ∙ append_assoc before (e.value_given sv.value ∷ []) z.0.ys;
        is_values = z.0.is_values ∙ append_assoc bs (number_given v ∷ []) z.0.vs;
        given = (
          z.1,
          d.value.types,
          read_more (ComesOf c (λ y. Reads y first) (length st.variables) (length sv.state.variables)) (λ i. i < high) (λ i q. (let lt = comes_below f here c o Homes Lives kinds base world (λ y. Reads y first) (length st.variables) (length sv.state.variables) i over1.low q in omega (arith, lt, more2))) sv.value d.value.reads,
          z.0.given,
        );
      })
      (ended_same k R J (ce.arguments cc rest (bs ++ number_given v ∷ []) here s1 n1) (run_of f part.pieces d.after n1) (pieces_hold J f (piece_row part.pieces) keeps d.after n1 d.value.same)
      (next sv.state (before ++ e.value_given sv.value ∷ []) (bs ++ number_given v ∷ []) over1 within s1 d.after n1 le d.shown d.typed)))))

  -- ---- calls

  pub call_later : (callee : ℕ) (args : ArgumentTrees) (kd : Option CType) (at : Place) (st : State) → IsLater (arguments g c args [] st).state (g callee (arguments g c args [] st).value c at (arguments g c args [] st).state).state
  call_later callee args kd at st =
      let all = arguments g c args [] st in
      (callees.any callee args all.value at all.state tt (given_shaped f (λ t. Unit {0}) 0 (λ i le t x u. tt) g c Anything callees.any args st) (omega arith) (λ i lt t x u. tt) (λ t a i x u. tt)).later

  pub call_same : (used : Bool) (callee : ℕ) (args : ArgumentTrees) (kd : Option CType) (at : Place) (st : State) (s : Cells) (t : Store) (n : ℕ) → CallsSame k f here c o Homes Lives kinds base world.array_base world.seen cc g → IsSound o (core.call callee args kd at) → IsOver c base world.array_base world.seen st
      → IsWithin (expression g c (core.call callee args kd at) st).state f → ArgumentsRun args st s t n [] []
      → Same false k (Does unary_fits binary_fits f k here c o Homes Lives kinds base world cc g callees used (core.call callee args kd at) st (expression g c (core.call callee args kd at) st)) (ce.expression cc used (core.call callee args kd at) here s n) (run_of f (expression g c (core.call callee args kd at) st).pieces t n)
  unfolding then_
  call_same used callee args kd at st s t n calls sound over within h =
      let e1 = core.call callee args kd at in
      let all = arguments g c args [] st in
      let part = g callee all.value c at all.state in
      let low = length st.variables in
      let high = length part.state.variables in
      let up = args_later args [] st in
      let over1 = over_later unary_fits binary_fits f k here c o Homes Lives kinds base world cc g callees st all.state over up in
      let Q = Result unary_fits binary_fits f k here c o Homes Lives kinds base world used e1 low high (value_or_zero part.value) in
      let more : low ≤ length all.state.variables = up.more in
      subst (λ zs. Same false k Q (ce.expression cc used e1 here s n) (run_of f zs t n)) (sym (append_assoc all.pieces part.pieces []))
      (on_same f k (ArgumentsDone args (length all.state.variables) [] all.value []) Q all.pieces (part.pieces ++ []) (ce.arguments cc args [] here s n)
      (λ given s1 n1. Steps.then_ (cc used callee given (suc here.frame) (here.path ++ at ∷ []) s1 n1) (λ r s2 n2. goes (number_or_zero r) s2 n2)) t n h (λ gs s1 w t1 a. a.done.on_)
      (λ gs s1 w t1 n1 le a.
      let given : AreGiven f here o Homes Lives (length all.state.variables) args gs all.value t1 =
      subst (λ z. AreGiven f here o Homes Lives (length all.state.variables) args z all.value t1) (sym a.is_values) (subst (λ z. AreGiven f here o Homes Lives (length all.state.variables) args a.vs z t1) (sym a.is_given) a.given) in
      on_same f k (HasCalled f c Homes Lives kinds used kd (length all.state.variables) part) Q part.pieces [] (cc used callee gs (suc here.frame) (here.path ++ at ∷ []) s1 n1) (λ r s2 n2. goes (number_or_zero r) s2 n2) t1 n1
      (calls used callee args kd sound.0 gs all.value at all.state over1 within s1 t1 n1 le a.done.shown a.done.typed given)
      (λ r s2 w2 t2 z. z.done.on_)
      (λ r s2 w2 t2 n2 le2 z.
      goes_same k Q (number_or_zero r) s2 on t2 n2 le2 (record {
        done = record { on_ = refl; shown = z.done.shown; typed = z.done.typed };
        value = λ m. value_more f here c o Homes Lives kinds base world (λ y. ⊥) (λ y. Reads y e1) (length all.state.variables) low high high (value_or_zero part.value) (unwrap_or kd int_type) (number_or_zero r) t2 (λ y d. d) more (le_refl high) (z.value (used_of used callee args kd at m));
      }))))
    where
      used_of : (used : Bool) (callee : ℕ) (args : ArgumentTrees) (kd : Option CType) (at : Place) → Matters used (core.call callee args kd at) → used ≡ true
      used_of true callee args kd at m = refl
      used_of false callee args kd at m = absurd m
