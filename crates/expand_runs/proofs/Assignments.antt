-- Assignments, `++` and `--` with the evaluation of their operands.
use Rattle.std.proofs.Common.{◌≡◌, ◌≢◌, ℕ, ◌≤◌, ◌<◌, ◌⊎◌, inl, inr, ◌∙◌, sym, refl, ap, subst, ℤ, Bool, true, false, true≢false, List, [], ◌∷◌, ◌++◌, length, Option, Some, None, le_refl, le_trans, arith}
use Rattle.std.proofs.lemmas.List.{append-nil}
use Rattle.hls_base.specs.declared.place.Place.{Place}
use Rattle.c_token.specs.declared.ctype.CType.{CType}
use Rattle.c_tree.specs.declared.operator.Binary.{Binary}
use Rattle.pieces.specs.declared.resolved.expression.Cell.{Cell}
use Rattle.pieces.specs.Resolved.Core as core
use Rattle.pieces.specs.Resolved.Core.{CoreTree, CoreTrees}
use Rattle.pieces.specs.Trees as tree
use Rattle.pieces.specs.Trees.{PureTree, PureTrees, PieceTree, piece_row, row}
use Rattle.piece_making.specs.declared.frame.Home.{Home}
use Rattle.piece_making.specs.declared.effects.Effects.{Effects}
use Rattle.piece_making.specs.Acting.{spoils, no_effects, effects}
use Rattle.piece_making.specs.Making.{State, Part, then_}
use Rattle.piece_making.specs.Saving.{has_element}
use Rattle.piece_making.specs.Calls.{Call, variable, variable_in}
use Rattle.piece_making.specs.Assigning as making
use Rattle.piece_making.specs.Assigning.{change, step, one, bumped, bumped_behind}
use Rattle.hls_base.specs.Steps as Steps
use Rattle.hls_base.specs.Steps.{Ran}
use Rattle.hls_base.specs.Valued.{is, and_then}
use Rattle.hls_base.specs.Same.{Same}
use Rattle.c_meaning.specs.CoreRuns.Cells.{Spot, Cells, Here, spot_of}
use Rattle.c_meaning.specs.CoreRuns.Kinds.{kind_of}
use Rattle.c_meaning.specs.CoreRuns.Expressions as ce
use Rattle.c_meaning.specs.CoreRuns.Expressions.{CoreCalls}
use Rattle.c_meaning.specs.PieceRuns.Values.{Store, value, values, with_variable, with_element}
use Rattle.c_meaning.specs.PieceRuns.Pieces.{Frame, Way}
use Rattle.c_expand.specs.Expressions.{Callee, expression, operands}
use Rattle.expand_runs.specs.Reading.{AllRead, EachReads, EachHasTypes, IsTyped, UnaryFits, BinaryFits}
use Rattle.expand_runs.specs.Growing.{IsWithin}
use Rattle.expand_runs.specs.Showing.{Known, IsShown}
use Rattle.expand_runs.specs.Sound.{Objects, IsSound, AnyReads, Changes}
use Rattle.expand_runs.specs.Fitting.{Taken, Anything}
use Rattle.expand_runs.specs.Evaluating.{ComesOf}
use Rattle.expand_runs.specs.Worlds.{IsWorld, IsOver, AreNoted}
use Rattle.expand_runs.proofs.Growing.{within_before}
use Rattle.expand_runs.proofs.Sames.{ended_same}
use Rattle.expand_runs.proofs.Rows.{run_of}
use Rattle.expand_runs.proofs.Holding.{pieces_hold}
use Rattle.expand_runs.proofs.Reading.{read_more, reads_more, read_any, value_agrees, values_agree}
use Rattle.expand_runs.proofs.Typing.{number_other}
use Rattle.expand_runs.proofs.Changing.{changed_variable}
use Rattle.expand_runs.proofs.Fine.{Sets, Puts, AreAllowed}
use Rattle.expand_runs.proofs.FineExpressions.{CalleesKeep, Permits, assigned_fine, bumped_fine, expression_fine, sound_fits, some_given}
use Rattle.expand_runs.proofs.Evaluating.{on_same, puts_value}
use Rattle.expand_runs.proofs.Operands.{OperandsDone, AreSafe, comes_below}
use Rattle.expand_runs.proofs.ExpressionParts.{Result}
use Rattle.expand_runs.proofs.PartRuns.{Does, any_later, all_later, over_later}
use Rattle.expand_runs.proofs.Targets.{IsTargetAt, target_scalar, target_element, assigned_same, bumped_before, bumped_after}
use Rattle.pieces.specs.Kind.{kind}

-- ---- values of several operands

sets_values : (f : Frame) (xs : PureTrees) (vs : List ℤ) (i : ℕ) → EachReads (λ j. i ≢ j) xs → Sets f (λ t. values f.arrays xs t ≡ is vs) i
sets_values f xs vs i reads t y e = values_agree f.arrays (λ j. i ≢ j) t (with_variable i y t) (λ j ne. number_other t.variables i j y ne) xs reads (λ a b. refl) ∙ e

module _ (f : Frame) (here : Here) (c : Call) (o : Objects) (Homes : Spot → Home → Type 0) (Lives : Spot → Type 0) (kinds : Known) (base : ℕ) (world : IsWorld f here c o Homes Lives kinds base) where
  plain_values : (later : Effects) (ys : List PureTree) → spoils later ≡ true → AreSafe f here c o Homes Lives kinds base world later ys → (t : Store) (a i : ℕ) (x : ℤ) → values f.arrays (row ys) (with_element a i x t) ≡ values f.arrays (row ys) t
  plain_values later [] e safe t a i x = refl
  plain_values later (y ∷ ys) e safe t a i x =
      ap (λ r. and_then (value f.arrays y (with_element a i x t)) (λ u. and_then r (λ us. is (u ∷ us)))) (plain_values later ys e safe.1 t a i x)
      ∙ ap (λ r. and_then r (λ u. and_then (values f.arrays (row ys) t) (λ us. is (u ∷ us))))
      (value_agrees f.arrays (λ j. Unit {0}) t (with_element a i x t) (λ j u. refl) y (read_any (λ j. Unit {0}) (λ j. tt) y) (λ z. absurd (true≢false (sym z ∙ safe.0.plain e))))

  apart_from_file : (later : Effects) (ys : List PureTree) (i : ℕ) → later.calls ≡ true → i < c.file_variables → AreSafe f here c o Homes Lives kinds base world later ys → EachReads (λ j. i ≢ j) (row ys)
  apart_from_file later [] i e lt safe = tt
  apart_from_file later (y ∷ ys) i e lt safe =
      (read_more (λ j. later.calls ≡ true → c.file_variables ≤ j) (λ j. i ≢ j) (λ j a same. (let b = a e in omega (arith, b, lt, same))) y safe.0.file, apart_from_file later ys i e lt safe.1)

  pub own_values : (R : Cell → Type 0) (low high : ℕ) (ys : List PureTree) (vs : List ℤ) → base ≤ high → EachReads (ComesOf c R low high) (row ys) → (i : ℕ) → high ≤ i → Sets f (λ t. values f.arrays (row ys) t ≡ is vs) i
  own_values R low high ys vs le reads i le_i =
      sets_values f (row ys) vs i (reads_more (ComesOf c R low high) (λ j. i ≢ j) (λ j z same. (let b = comes_below f here c o Homes Lives kinds base world R low high j le z in omega (arith, b, le_i, same))) (row ys) reads)

  -- What a later part may set leaves the values of earlier operands.
  pub values_permitted : (R C : Cell → Type 0) (low high : ℕ) (ys : List PureTree) (vs : List ℤ) (later : Effects) → base ≤ low → low ≤ high → EachReads (ComesOf c R low high) (row ys) → AreSafe f here c o Homes Lives kinds base world later ys
      → ((y : Cell) → C y → (kd : CType) × o.Variable y kd) → ((y : Cell) → R y → C y → ⊥) → (own : (i : ℕ) → high ≤ i → Sets f (λ t1. values f.arrays (row ys) t1 ≡ is vs) i)
      → Permits f (λ t1. values f.arrays (row ys) t1 ≡ is vs) high own c C later
  values_permitted R C low high ys vs later le le' reads safe changed apart own = record {
    cells = λ y d.
        let q = changed y d in
        let w = world.variables y q.0 q.1 in
        let b : w.0.0 < base = world.bounded y w.0 w.1.0 in
        let name : variable c y ≡ w.0 = ap variable_in w.1.0 in
        subst (λ z. Sets f (λ t1. values f.arrays (row ys) t1 ≡ is vs) z.0) (sym name)
        (sets_values f (row ys) vs w.0.0 (reads_more (ComesOf c R low high) (λ j. w.0.0 ≢ j) (λ j z same. elim z [
          | inl p ↦ apart y (subst R (sym (world.names y p.0 w.0 p.1 w.1.0 p.3 (same ∙ sym p.4))) p.2) d
          | inr p ↦ (let a = p.0 in omega (arith, a, b, le, same))
        ]) (row ys) reads));
    calls = λ z i lt. sets_values f (row ys) vs i (apart_from_file later ys i z lt safe);
    puts = λ z t a i x e. plain_values later ys z safe t a i x ∙ e;
  }

module _ (unary_fits : UnaryFits) (binary_fits : BinaryFits) (f : Frame) (k : ℕ) (here : Here) (c : Call) (o : Objects) (Homes : Spot → Home → Type 0) (Lives : Spot → Type 0) (kinds : Known) (base : ℕ) (world : IsWorld f here c o Homes Lives kinds base) (cc : CoreCalls) (g : Callee) (callees : CalleesKeep f o g c) where
  -- the subscripts of a target, and the value behind them, are made before the assignment
  pub assign_before : (cell : Cell) (subscripts : CoreTrees) (kd : CType) (place : Place) (op : Option Binary) (v : CoreTree) (at : Place) (st : State) → IsWithin (expression g c (core.assign (core.target cell subscripts kd place) op v at) st).state f
      → IsWithin (expression g c v (operands g c subscripts (effects v) [] st).state).state f
  unfolding then_
  assign_before cell subscripts kd place op v at st within =
      let all = operands g c subscripts (effects v) [] st in
      let by = expression g c v all.state in
      within_before by.state (making.assigned c (change cell kd place (row all.value) op at) by.value by.state).state f
      (assigned_fine f (λ t. Unit {0}) 0 (λ i le t x u. tt) c (change cell kd place (row all.value) op at) by.value by.state (omega arith) (λ e t x u. tt) (λ t a i x u. tt)).later within

  pub bump_before_within : (cell : Cell) (subscripts : CoreTrees) (kd : CType) (place : Place) (up post : Bool) (at : Place) (st : State) → IsWithin (expression g c (core.bump (core.target cell subscripts kd place) up post at) st).state f
      → IsWithin (operands g c subscripts no_effects [] st).state f
  unfolding then_
  bump_before_within cell subscripts kd place up post at st within =
      let all = operands g c subscripts no_effects [] st in
      within_before all.state (bumped c (change cell kd place (row all.value) (step up) at) post all.state).state f
      (bumped_fine f (λ t. Unit {0}) 0 (λ i le t x u. tt) c (change cell kd place (row all.value) (step up) at) post all.state (omega arith) (λ e t x u. tt) (λ t a i x u. tt)).later within

  -- ---- scalars

  bumped_side : (used : Bool) (e : CoreTree) (post : Bool) (cell : Cell) (kd : CType) (place : Place) (xs : PureTrees) (vs : List ℤ) (up : Bool) (at : Place) (low : ℕ) (st : State) (s : Cells) (t : Store) (n : ℕ) → n ≤ k → kind_of e ≡ kd → base ≤ low → low ≤ length st.variables
      → AreNoted c world.seen st → IsWithin (bumped c (change cell kd place xs (step up) at) post st).state f → IsTargetAt unary_fits binary_fits f k here c o Homes Lives kinds base world cell kd place xs vs (length st.variables) s t → IsShown f Homes Lives kinds s t → IsTyped f t
      → Same false k (Result unary_fits binary_fits f k here c o Homes Lives kinds base world used e low (length (bumped c (change cell kd place xs (step up) at) post st).state.variables) (bumped c (change cell kd place xs (step up) at) post st).value) (ce.bumped up post (spot_of here cell) vs kd place at s n)
      (run_of f (bumped c (change cell kd place xs (step up) at) post st).pieces t n)
  bumped_side used e false cell kd place xs vs up at low st s t n le type low_base low_st noted within target shown typed = bumped_before unary_fits binary_fits f k here c o Homes Lives kinds base world used e cell kd place xs vs up at low st s t n le type low_base low_st noted within target shown typed
  bumped_side used e true cell kd place xs vs up at low st s t n le type low_base low_st noted within target shown typed = bumped_after unary_fits binary_fits f k here c o Homes Lives kinds base world used e cell kd place xs vs up at low st s t n le type low_base low_st noted within target shown typed

  pub scalar_assigned : (used : Bool) (cell : Cell) (kd : CType) (place : Place) (op : Option Binary) (v : CoreTree) (at : Place) (st : State) (s : Cells) (t : Store) (n : ℕ) → IsSound o (core.assign (core.target cell core.none kd place) op v at) → IsOver c base world.array_base world.seen st
      → IsWithin (expression g c (core.assign (core.target cell core.none kd place) op v at) st).state f
      → Same false k (Does unary_fits binary_fits f k here c o Homes Lives kinds base world cc g callees true v st (expression g c v st)) (ce.expression cc true v here s n) (run_of f (expression g c v st).pieces t n)
      → Same false k (Does unary_fits binary_fits f k here c o Homes Lives kinds base world cc g callees used (core.assign (core.target cell core.none kd place) op v at) st (expression g c (core.assign (core.target cell core.none kd place) op v at) st)) (ce.expression cc used (core.assign (core.target cell core.none kd place) op v at) here s n)
      (run_of f (expression g c (core.assign (core.target cell core.none kd place) op v at) st).pieces t n)
  unfolding then_
  scalar_assigned used cell kd place op v at st s t n sound over within h =
      let e = core.assign (core.target cell core.none kd place) op v at in
      let by = expression g c v st in
      let up = any_later unary_fits binary_fits f k here c o Homes Lives kinds base world cc g callees v st in
      let part = making.assigned c (change cell kd place tree.none op at) by.value by.state in
      let more = up.more in
      on_same f k (Does unary_fits binary_fits f k here c o Homes Lives kinds base world cc g callees true v st by) (Does unary_fits binary_fits f k here c o Homes Lives kinds base world cc g callees used e st (expression g c e st)) by.pieces part.pieces (ce.expression cc true v here s n) (λ x s2 n2. ce.assigned op (spot_of here cell) [] kd place (kind_of v) x at s2 n2) t n h (λ x s1 w t1 a. a.done.on_)
      (λ x s1 w t1 n1 le a.
      assigned_same unary_fits binary_fits f k here c o Homes Lives kinds base world used e cell kd place tree.none [] op at by.value x (kind_of v) (length st.variables) by.state s1 t1 n1 le sound.4 refl over.low more (over_later unary_fits binary_fits f k here c o Homes Lives kinds base world cc g callees st by.state over up).noted within
      (target_scalar unary_fits binary_fits f k here c o Homes Lives kinds base world cell kd place (length by.state.variables) s1 t1 sound.0 a.done.shown) a.done.shown a.done.typed (a.value tt).same (a.value tt).type)

  pub scalar_bumped : (used : Bool) (cell : Cell) (kd : CType) (place : Place) (up post : Bool) (at : Place) (st : State) (s : Cells) (t : Store) (n : ℕ) → n ≤ k → IsSound o (core.bump (core.target cell core.none kd place) up post at) → IsOver c base world.array_base world.seen st
      → IsWithin (expression g c (core.bump (core.target cell core.none kd place) up post at) st).state f → IsShown f Homes Lives kinds s t → IsTyped f t
      → Same false k (Does unary_fits binary_fits f k here c o Homes Lives kinds base world cc g callees used (core.bump (core.target cell core.none kd place) up post at) st (expression g c (core.bump (core.target cell core.none kd place) up post at) st)) (ce.expression cc used (core.bump (core.target cell core.none kd place) up post at) here s n)
      (run_of f (expression g c (core.bump (core.target cell core.none kd place) up post at) st).pieces t n)
  unfolding then_
  scalar_bumped used cell kd place up post at st s t n le sound over within shown typed =
      bumped_side used (core.bump (core.target cell core.none kd place) up post at) post cell kd place tree.none [] up at (length st.variables) st s t n le refl over.low (le_refl (length st.variables)) over.noted within
      (target_scalar unary_fits binary_fits f k here c o Homes Lives kinds base world cell kd place (length st.variables) s t sound.0 shown) shown typed

  -- ---- elements

  element_target : (cell : Cell) (kd : CType) (place : Place) (ys : List PureTree) (vs : List ℤ) (low : ℕ) (st : State) (s : Cells) (t : Store) → (row ys ≡ tree.none → ⊥) → o.Array cell kd → IsShown f Homes Lives kinds s t → values f.arrays (row ys) t ≡ is vs → EachReads (λ i. i < low) (row ys)
      → EachHasTypes f (row ys) → AreNoted c world.seen st → IsTargetAt unary_fits binary_fits f k here c o Homes Lives kinds base world cell kd place (row ys) vs low s t
  element_target cell kd place [] vs low st s t some is_array shown e reads types noted = absurd (some refl)
  element_target cell kd place (y ∷ ys) vs low st s t some is_array shown e reads types noted = target_element unary_fits binary_fits f k here c o Homes Lives kinds base world cell kd place y (row ys) vs low s t is_array shown e reads types st noted

  -- The subscripts and the value of an assignment to an element, and what follows them.
  pub element_then : {A : Type 0} (Q : A → Cells → Way → Store → Type 0) (zs : List PieceTree) (next : List ℤ → ℤ → Cells → ℕ → Ran Cells A) (cell : Cell) (first : CoreTree) (rest : CoreTrees) (kd : CType) (place : Place) (op : Option Binary) (v : CoreTree) (at : Place) (st : State) (s : Cells) (t : Store) (n : ℕ)
      → IsSound o (core.assign (core.target cell (core.more first rest) kd place) op v at) → IsOver c base world.array_base world.seen st
      → Same false k (OperandsDone f here c o Homes Lives kinds base world (core.more first rest) (effects v) (length st.variables) (length (operands g c (core.more first rest) (effects v) [] st).state.variables) [] (operands g c (core.more first rest) (effects v) [] st).value []) (ce.numbers cc (core.more first rest) [] here s n)
      (run_of f (operands g c (core.more first rest) (effects v) [] st).pieces t n)
      → ((s1 : Cells) (t1 : Store) (n1 : ℕ) → n1 ≤ k → IsShown f Homes Lives kinds s1 t1 → IsTyped f t1
      → Same false k (Does unary_fits binary_fits f k here c o Homes Lives kinds base world cc g callees true v (operands g c (core.more first rest) (effects v) [] st).state (expression g c v (operands g c (core.more first rest) (effects v) [] st).state)) (ce.expression cc true v here s1 n1)
      (run_of f (expression g c v (operands g c (core.more first rest) (effects v) [] st).state).pieces t1 n1))
      → ((js : List ℤ) (x : ℤ) (s2 : Cells) (t2 : Store) (n2 : ℕ) → n2 ≤ k
      → IsTargetAt unary_fits binary_fits f k here c o Homes Lives kinds base world cell kd place (row (operands g c (core.more first rest) (effects v) [] st).value) js (length (expression g c v (operands g c (core.more first rest) (effects v) [] st).state).state.variables) s2 t2
      → IsShown f Homes Lives kinds s2 t2 → IsTyped f t2 → value f.arrays (expression g c v (operands g c (core.more first rest) (effects v) [] st).state).value t2 ≡ is x → kind (expression g c v (operands g c (core.more first rest) (effects v) [] st).state).value ≡ kind_of v
      → Same false k Q (next js x s2 n2) (run_of f zs t2 n2))
      → Same false k Q (Steps.then_ (ce.numbers cc (core.more first rest) [] here s n) (λ js s1 n1. Steps.then_ (ce.expression cc true v here s1 n1) (λ x s2 n2. next js x s2 n2)))
      (run_of f ((operands g c (core.more first rest) (effects v) [] st).pieces ++ ((expression g c v (operands g c (core.more first rest) (effects v) [] st).state).pieces ++ zs)) t n)
  element_then Q zs last cell first rest kd place op v at st s t n sound over h next fin =
      let subscripts = core.more first rest in
      let all = operands g c subscripts (effects v) [] st in
      let by = expression g c v all.state in
      let low = length st.variables in
      let high = length all.state.variables in
      let up = all_later unary_fits binary_fits f k here c o Homes Lives kinds base world cc g callees subscripts (effects v) [] st in
      let up1 = any_later unary_fits binary_fits f k here c o Homes Lives kinds base world cc g callees v all.state in
      let over1 = over_later unary_fits binary_fits f k here c o Homes Lives kinds base world cc g callees st all.state over up in
      let over2 = over_later unary_fits binary_fits f k here c o Homes Lives kinds base world cc g callees all.state by.state over1 up1 in
      let more = up.more in
      let more1 = up1.more in
      let O = OperandsDone f here c o Homes Lives kinds base world subscripts (effects v) low high [] all.value [] in
      on_same f k O Q all.pieces (by.pieces ++ zs) (ce.numbers cc subscripts [] here s n) (λ js s1 n1. Steps.then_ (ce.expression cc true v here s1 n1) (λ x s2 n2. last js x s2 n2)) t n h (λ js s1 w t1 a. a.done.on_)
      (λ js s1 w t1 n1 le a.
      let J = λ (t2 : Store). values f.arrays (row all.value) t2 ≡ is js in
      let reads : EachReads (ComesOf c (λ y. AnyReads y subscripts) low high) (row all.value) = subst (λ z. EachReads (ComesOf c (λ y. AnyReads y subscripts) low high) (row z)) (sym a.is_given) a.values.reads in
      let types : EachHasTypes f (row all.value) = subst (λ z. EachHasTypes f (row z)) (sym a.is_given) a.values.types in
      let safe : AreSafe f here c o Homes Lives kinds base world (effects v) all.value = subst (AreSafe f here c o Homes Lives kinds base world (effects v)) (sym a.is_given) a.safe in
      let there : J t1 = subst (λ z. values f.arrays (row z) t1 ≡ is js) (sym a.is_given) (a.values.same ∙ ap is (sym a.is_values)) in
      let own = own_values f here c o Homes Lives kinds base world (λ y. AnyReads y subscripts) low high all.value js over1.low reads in
      let keeps = (expression_fine f J high own g c (Taken o) (callees.fine J high own) v all.state (le_refl high) (sound_fits o v sound.2)
      (values_permitted f here c o Homes Lives kinds base world (λ y. AnyReads y subscripts) (λ y. Changes y v) low high all.value js (effects v) over.low more reads safe (λ y z. changed_variable o y v sound.2 z) sound.3 own)).allowed in
      let R = Does unary_fits binary_fits f k here c o Homes Lives kinds base world cc g callees true v all.state by in
      on_same f k (λ x s2 w2 t2. R x s2 w2 t2 × J t2) Q by.pieces zs (ce.expression cc true v here s1 n1) (λ x s2 n2. last js x s2 n2) t1 n1
      (ended_same k R J (ce.expression cc true v here s1 n1) (run_of f by.pieces t1 n1) (pieces_hold J f (piece_row by.pieces) keeps t1 n1 there) (next s1 t1 n1 le a.done.shown a.done.typed))
      (λ x s2 w2 t2 m. m.0.done.on_)
      (λ x s2 w2 t2 n2 le2 m.
      let below = reads_more (ComesOf c (λ y. AnyReads y subscripts) low high) (λ i. i < length by.state.variables) (λ i q. (let lt = comes_below f here c o Homes Lives kinds base world (λ y. AnyReads y subscripts) low high i over1.low q in omega (arith, lt, more1))) (row all.value) reads in
      fin js x s2 t2 n2 le2
      (element_target cell kd place all.value js (length by.state.variables) by.state s2 t2 (some_given f (λ t. Unit {0}) 0 (λ i le t x u. tt) g c Anything callees.any first rest (effects v) st) sound.0 m.0.done.shown m.1 below types over2.noted)
      m.0.done.shown m.0.done.typed (m.0.value tt).same (m.0.value tt).type))

  pub element_assigned : (used : Bool) (cell : Cell) (first : CoreTree) (rest : CoreTrees) (kd : CType) (place : Place) (op : Option Binary) (v : CoreTree) (at : Place) (st : State) (s : Cells) (t : Store) (n : ℕ) → IsSound o (core.assign (core.target cell (core.more first rest) kd place) op v at)
      → IsOver c base world.array_base world.seen st → IsWithin (expression g c (core.assign (core.target cell (core.more first rest) kd place) op v at) st).state f
      → Same false k (OperandsDone f here c o Homes Lives kinds base world (core.more first rest) (effects v) (length st.variables) (length (operands g c (core.more first rest) (effects v) [] st).state.variables) [] (operands g c (core.more first rest) (effects v) [] st).value []) (ce.numbers cc (core.more first rest) [] here s n)
      (run_of f (operands g c (core.more first rest) (effects v) [] st).pieces t n)
      → ((s1 : Cells) (t1 : Store) (n1 : ℕ) → n1 ≤ k → IsShown f Homes Lives kinds s1 t1 → IsTyped f t1
      → Same false k (Does unary_fits binary_fits f k here c o Homes Lives kinds base world cc g callees true v (operands g c (core.more first rest) (effects v) [] st).state (expression g c v (operands g c (core.more first rest) (effects v) [] st).state)) (ce.expression cc true v here s1 n1)
      (run_of f (expression g c v (operands g c (core.more first rest) (effects v) [] st).state).pieces t1 n1))
      → Same false k (Does unary_fits binary_fits f k here c o Homes Lives kinds base world cc g callees used (core.assign (core.target cell (core.more first rest) kd place) op v at) st (expression g c (core.assign (core.target cell (core.more first rest) kd place) op v at) st))
      (ce.expression cc used (core.assign (core.target cell (core.more first rest) kd place) op v at) here s n) (run_of f (expression g c (core.assign (core.target cell (core.more first rest) kd place) op v at) st).pieces t n)
  unfolding then_
  element_assigned used cell first rest kd place op v at st s t n sound over within h next =
      let subscripts = core.more first rest in
      let e = core.assign (core.target cell subscripts kd place) op v at in
      let all = operands g c subscripts (effects v) [] st in
      let by = expression g c v all.state in
      let part = making.assigned c (change cell kd place (row all.value) op at) by.value by.state in
      let up = all_later unary_fits binary_fits f k here c o Homes Lives kinds base world cc g callees subscripts (effects v) [] st in
      let up1 = any_later unary_fits binary_fits f k here c o Homes Lives kinds base world cc g callees v all.state in
      let over2 = over_later unary_fits binary_fits f k here c o Homes Lives kinds base world cc g callees all.state by.state (over_later unary_fits binary_fits f k here c o Homes Lives kinds base world cc g callees st all.state over up) up1 in
      let more = up.more in
      let more1 = up1.more in
      let Q = Does unary_fits binary_fits f k here c o Homes Lives kinds base world cc g callees used e st (expression g c e st) in
      subst (λ zs. Same false k Q (ce.expression cc used e here s n) (run_of f (zs ++ (by.pieces ++ part.pieces)) t n)) (sym (append-nil all.pieces))
      (element_then Q part.pieces (λ js x s2 n2. ce.assigned op (spot_of here cell) js kd place (kind_of v) x at s2 n2) cell first rest kd place op v at st s t n sound over h next
      (λ js x s2 t2 n2 le2 target shown typed there type.
      assigned_same unary_fits binary_fits f k here c o Homes Lives kinds base world used e cell kd place (row all.value) js op at by.value x (kind_of v) (length st.variables) by.state s2 t2 n2 le2 sound.4 refl over.low (le_trans more more1) over2.noted within target shown typed there type))

  -- The subscripts of `++` and `--`, and what follows them.
  pub element_bump_then : {A : Type 0} (Q : A → Cells → Way → Store → Type 0) (zs : List PieceTree) (next : List ℤ → Cells → ℕ → Ran Cells A) (cell : Cell) (first : CoreTree) (rest : CoreTrees) (kd : CType) (place : Place) (up post : Bool) (at : Place) (st : State) (s : Cells) (t : Store) (n : ℕ)
      → IsSound o (core.bump (core.target cell (core.more first rest) kd place) up post at) → IsOver c base world.array_base world.seen st
      → Same false k (OperandsDone f here c o Homes Lives kinds base world (core.more first rest) no_effects (length st.variables) (length (operands g c (core.more first rest) no_effects [] st).state.variables) [] (operands g c (core.more first rest) no_effects [] st).value []) (ce.numbers cc (core.more first rest) [] here s n)
      (run_of f (operands g c (core.more first rest) no_effects [] st).pieces t n)
      → ((js : List ℤ) (s1 : Cells) (t1 : Store) (n1 : ℕ) → n1 ≤ k → IsTargetAt unary_fits binary_fits f k here c o Homes Lives kinds base world cell kd place (row (operands g c (core.more first rest) no_effects [] st).value) js (length (operands g c (core.more first rest) no_effects [] st).state.variables) s1 t1
      → IsShown f Homes Lives kinds s1 t1 → IsTyped f t1 → Same false k Q (next js s1 n1) (run_of f zs t1 n1))
      → Same false k Q (Steps.then_ (ce.numbers cc (core.more first rest) [] here s n) (λ js s1 n1. next js s1 n1)) (run_of f ((operands g c (core.more first rest) no_effects [] st).pieces ++ zs) t n)
  element_bump_then Q zs last cell first rest kd place up post at st s t n sound over h fin =
      let subscripts = core.more first rest in
      let all = operands g c subscripts no_effects [] st in
      let low = length st.variables in
      let high = length all.state.variables in
      let over1 = over_later unary_fits binary_fits f k here c o Homes Lives kinds base world cc g callees st all.state over (all_later unary_fits binary_fits f k here c o Homes Lives kinds base world cc g callees subscripts no_effects [] st) in
      let O = OperandsDone f here c o Homes Lives kinds base world subscripts no_effects low high [] all.value [] in
      on_same f k O Q all.pieces zs (ce.numbers cc subscripts [] here s n) (λ js s1 n1. last js s1 n1) t n h (λ js s1 w t1 a. a.done.on_)
      (λ js s1 w t1 n1 le a.
      let reads : EachReads (ComesOf c (λ y. AnyReads y subscripts) low high) (row all.value) = subst (λ z. EachReads (ComesOf c (λ y. AnyReads y subscripts) low high) (row z)) (sym a.is_given) a.values.reads in
      let types : EachHasTypes f (row all.value) = subst (λ z. EachHasTypes f (row z)) (sym a.is_given) a.values.types in
      let there : values f.arrays (row all.value) t1 ≡ is js = subst (λ z. values f.arrays (row z) t1 ≡ is js) (sym a.is_given) (a.values.same ∙ ap is (sym a.is_values)) in
      let below = reads_more (ComesOf c (λ y. AnyReads y subscripts) low high) (λ i. i < high) (λ i q. comes_below f here c o Homes Lives kinds base world (λ y. AnyReads y subscripts) low high i over1.low q) (row all.value) reads in
      fin js s1 t1 n1 le (element_target cell kd place all.value js high all.state s1 t1 (some_given f (λ t. Unit {0}) 0 (λ i le t x u. tt) g c Anything callees.any first rest no_effects st) sound.0 a.done.shown there below types over1.noted) a.done.shown a.done.typed)

  pub element_bumped : (used : Bool) (cell : Cell) (first : CoreTree) (rest : CoreTrees) (kd : CType) (place : Place) (up post : Bool) (at : Place) (st : State) (s : Cells) (t : Store) (n : ℕ) → IsSound o (core.bump (core.target cell (core.more first rest) kd place) up post at)
      → IsOver c base world.array_base world.seen st → IsWithin (expression g c (core.bump (core.target cell (core.more first rest) kd place) up post at) st).state f
      → Same false k (OperandsDone f here c o Homes Lives kinds base world (core.more first rest) no_effects (length st.variables) (length (operands g c (core.more first rest) no_effects [] st).state.variables) [] (operands g c (core.more first rest) no_effects [] st).value []) (ce.numbers cc (core.more first rest) [] here s n)
      (run_of f (operands g c (core.more first rest) no_effects [] st).pieces t n)
      → Same false k (Does unary_fits binary_fits f k here c o Homes Lives kinds base world cc g callees used (core.bump (core.target cell (core.more first rest) kd place) up post at) st (expression g c (core.bump (core.target cell (core.more first rest) kd place) up post at) st))
      (ce.expression cc used (core.bump (core.target cell (core.more first rest) kd place) up post at) here s n) (run_of f (expression g c (core.bump (core.target cell (core.more first rest) kd place) up post at) st).pieces t n)
  unfolding then_
  element_bumped used cell first rest kd place up post at st s t n sound over within h =
      let subscripts = core.more first rest in
      let e = core.bump (core.target cell subscripts kd place) up post at in
      let all = operands g c subscripts no_effects [] st in
      let part = bumped c (change cell kd place (row all.value) (step up) at) post all.state in
      let later = all_later unary_fits binary_fits f k here c o Homes Lives kinds base world cc g callees subscripts no_effects [] st in
      let over1 = over_later unary_fits binary_fits f k here c o Homes Lives kinds base world cc g callees st all.state over later in
      let Q = Does unary_fits binary_fits f k here c o Homes Lives kinds base world cc g callees used e st (expression g c e st) in
      subst (λ zs. Same false k Q (ce.expression cc used e here s n) (run_of f (zs ++ part.pieces) t n)) (sym (append-nil all.pieces))
      (element_bump_then Q part.pieces (λ js s1 n1. ce.bumped up post (spot_of here cell) js kd place at s1 n1) cell first rest kd place up post at st s t n sound over h
      (λ js s1 t1 n1 le target shown typed. bumped_side used e post cell kd place (row all.value) js up at (length st.variables) all.state s1 t1 n1 le refl over.low later.more over1.noted within target shown typed))
