-- Expressions behind their operands.
use Rattle.std.proofs.Common.{◌≡◌, ℕ, ◌≤◌, ◌∙◌, sym, refl, ap, subst, ℤ, Bool, true, false, ◌&&◌, List, [], ◌∷◌, ◌++◌, length, Option, Some, None, slice_get, le_refl, le_trans, arith, if◌then◌else◌, true≢false}
use Rattle.hls_base.specs.declared.place.Place.{Place}
use Rattle.c_token.specs.declared.ctype.CType.{CType}
use Rattle.c_value.specs.Values.{convert}
use Rattle.c_value.specs.Operators.{binary_kind, binary_value}
use Rattle.std.proofs.lemmas.Option.{same_Some}
use Rattle.c_meaning.specs.Store.{element_in, element_place}
use Rattle.c_tree.specs.declared.operator.Binary.{Binary}
use Rattle.pieces.specs.declared.resolved.expression.Cell.{Cell}
use Rattle.pieces.specs.Resolved.Core as core
use Rattle.pieces.specs.Resolved.Core.{CoreTree, CoreTrees}
use Rattle.pieces.specs.Trees as tree
use Rattle.pieces.specs.Trees.{PureTree, PieceTree, piece_row, row}
use Rattle.pieces.specs.Kind.{kind}
use Rattle.piece_making.specs.declared.frame.Home.{Home}
use Rattle.piece_making.specs.declared.effects.Effects.{Effects}
use Rattle.piece_making.specs.Acting.{acts, either, no_effects, effects, effects_of_all}
use Rattle.piece_making.specs.Making.{State, Part, gives, then_, emit, fresh, set_own}
use Rattle.piece_making.specs.Saving.{save, is_logical}
use Rattle.piece_making.specs.Calls.{Call, array, scalar}
use Rattle.piece_making.specs.Assigning.{store_at}
use Rattle.hls_base.specs.Steps as Steps
use Rattle.hls_base.specs.Steps.{Ran, goes}
use Rattle.hls_base.specs.Valued.{is, and_then}
use Rattle.hls_base.specs.Same.{Same}
use Rattle.c_meaning.specs.CoreRuns.Kinds.{kind_of}
use Rattle.c_meaning.specs.CoreRuns.Kinds as kinds_of
use Rattle.c_meaning.specs.CoreRuns.Cells.{Spot, Cells, Here, spot_of}
use Rattle.c_meaning.specs.CoreRuns.Expressions as ce
use Rattle.c_meaning.specs.CoreRuns.Expressions.{CoreCalls}
use Rattle.c_meaning.specs.PieceRuns.Values.{Store, computed, joined, value, with_variable}
use Rattle.c_meaning.specs.PieceRuns.Pieces.{Frame, Way}
use Rattle.c_expand.specs.Expressions.{Callee, is_call, may_be_unused, discarded, comma_left, expression, operands, operated, forked}
use Rattle.expand_runs.specs.Reading.{IsNumber, IsTyped, HasTypes, UnaryFits, BinaryFits}
use Rattle.expand_runs.specs.Growing.{IsLater, IsWithin}
use Rattle.expand_runs.specs.Showing.{Known, IsShown}
use Rattle.expand_runs.specs.Sound.{Objects, IsSound, AreSound, Reads, Changes, AnyChanges}
use Rattle.expand_runs.specs.Evaluating.{Matters, IsValue}
use Rattle.expand_runs.specs.Worlds.{IsWorld, IsOver}
use Rattle.expand_runs.proofs.Sames.{same_more}
use Rattle.expand_runs.proofs.Rows.{run_of}
use Rattle.expand_runs.proofs.Growing.{within_before, later_same, later_own, later_fresh, later_both}
use Rattle.expand_runs.proofs.Going.{Goes, goes_nothing, goes_own, goes_behind}
use Rattle.expand_runs.proofs.Typing.{joined_plain, converted_number, value_number, number_here, number_other, typed_set}
use Rattle.expand_runs.proofs.Showing.{shown_apart}
use Rattle.expand_runs.proofs.Reading.{or_left}
use Rattle.expand_runs.proofs.Fine.{Sets, fine_save}
use Rattle.expand_runs.proofs.FineExpressions.{CalleesKeep, expression_fine, operands_fine, comma_left_fine, spoils_or, all_fit, any_fit, sound_fits, sounds_fit}
use Rattle.expand_runs.proofs.Changing.{changed_variable, any_variable}
use Rattle.expand_runs.proofs.Evaluating.{on_same, read_then, computed_then}
use Rattle.expand_runs.proofs.Operands.{variable_there, save_well, part_permitted, sets_above, OperandsDone}
use Rattle.expand_runs.proofs.ExpressionParts.{Result, element_same, binary_same}
use Rattle.expand_runs.proofs.OperandParts.{more_done}
use Rattle.expand_runs.proofs.Stores.{Stored, scalar_stored}
use Rattle.expand_runs.proofs.Assigned.{stored_converted, own_stored, comma_same}
use Rattle.expand_runs.specs.Fitting.{Anything, Taken}

-- an operator whose second operand is evaluated in any case
pub operated_plain : (c : Call) (op : Binary) (k : CType) (at : Place) (x : PureTree) (later : Effects) (right : State → Part PureTree) (s : State) → is_logical op ≡ false
    → operated c op k at x later right s ≡ then_ (save c.file_variables x later s) (λ left s1. then_ (right s1) (λ y s2. gives (tree.binary op left y k at) s2))
operated_plain c op k at x later right s e =
    ap (λ b. then_ (save c.file_variables x later s) (λ left s1. if (b && acts later) then forked c op k at left right s1 else then_ (right s1) (λ y s2. gives (tree.binary op left y k at) s2))) e

-- the value of an expression that is no call matters
pub call_or_matters : (e : CoreTree) → is_call e ≡ false → Matters false e
call_or_matters (core.number value kd) h = tt
call_or_matters (core.scalar cell kd at) h = tt
call_or_matters (core.element array subscripts kd at) h = tt
call_or_matters (core.call callee args kd at) h = absurd (true≢false h)
call_or_matters (core.unary op arg kd at) h = tt
call_or_matters (core.binary op left right kd at) h = tt
call_or_matters (core.choice test left right kd at colon) h = tt
call_or_matters (core.cast to arg) h = tt
call_or_matters (core.assign it op value at) h = tt
call_or_matters (core.bump it up post at) h = tt
call_or_matters (core.comma left right) h = tt

module _ (unary_fits : UnaryFits) (binary_fits : BinaryFits) (f : Frame) (k : ℕ) (here : Here) (c : Call) (o : Objects) (Homes : Spot → Home → Type 0) (Lives : Spot → Type 0) (kinds : Known) (base : ℕ)
    (world : IsWorld f here c o Homes Lives kinds base) (cc : CoreCalls) (g : Callee) (callees : CalleesKeep f o g c) where
  abbrev pub Does : Bool → CoreTree → State → Part PureTree → ℤ → Cells → Way → Store → Type 0
  Does used e st part = Result unary_fits binary_fits f k here c o Homes Lives kinds base world used e (length st.variables) (length part.state.variables) part.value

  -- parts only make variables
  pub any_later : (e : CoreTree) (st : State) → IsLater st (expression g c e st).state
  any_later e st =
      (expression_fine f (λ t. Unit {0}) 0 (λ i le t x u. tt) g c Anything callees.any e st (omega arith) (any_fit e)
      (record { cells = λ x d t y u. tt; calls = λ z i lt t y u. tt; puts = λ z t a i y u. tt })).later

  pub all_later : (xs : CoreTrees) (later : Effects) (before : List PureTree) (st : State) → IsLater st (operands g c xs later before st).state
  all_later xs later before st =
      (operands_fine f (λ t. Unit {0}) 0 (λ i le t x u. tt) g c Anything callees.any xs later before st (omega arith) (all_fit xs)
      (record { cells = λ x d t y u. tt; calls = λ z i lt t y u. tt; puts = λ z t a i y u. tt })).later

  pub save_later : (x : PureTree) (later : Effects) (st : State) → IsLater st (save c.file_variables x later st).state
  save_later x later st = (fine_save f (λ t. Unit {0}) 0 (λ i le t y u. tt) c.file_variables x later st (omega arith)).later

  -- what was made before is there later
  pub over_later : (st st' : State) → IsOver c base world.array_base world.seen st → IsLater st st' → IsOver c base world.array_base world.seen st'
  over_later st st' over later = record { low = le_trans over.low later.more; arrays = le_trans over.arrays later.more_arrays; noted = λ x slot a e z. later.slots slot.0 (Some a) (over.noted x slot a e z) }

  -- ---- operators

  pub binary_runs : (used : Bool) (op : Binary) (left right : CoreTree) (kd : CType) (at : Place) (st : State) (s : Cells) (t : Store) (n : ℕ) → is_logical op ≡ false → IsSound o (core.binary op left right kd at) → IsOver c base world.array_base world.seen st
      → IsWithin (expression g c (core.binary op left right kd at) st).state f
      → Same false k (Does true left st (expression g c left st)) (ce.expression cc true left here s n) (run_of f (expression g c left st).pieces t n)
      → ((st1 : State) → IsOver c base world.array_base world.seen st1 → IsWithin (expression g c right st1).state f → (s1 : Cells) (t1 : Store) (n1 : ℕ) → n1 ≤ k → IsShown f Homes Lives kinds s1 t1 → IsTyped f t1
      → Same false k (Does true right st1 (expression g c right st1)) (ce.expression cc true right here s1 n1) (run_of f (expression g c right st1).pieces t1 n1))
      → Same false k (Does used (core.binary op left right kd at) st (expression g c (core.binary op left right kd at) st)) (ce.expression cc used (core.binary op left right kd at) here s n) (run_of f (expression g c (core.binary op left right kd at) st).pieces t n)
  unfolding then_
  binary_runs used op left right kd at st s t n plain sound over within h next =
      let low = over.low in
      let first = expression g c left st in
      let later = effects right in
      let sv = save c.file_variables first.value later first.state in
      let second = expression g c right sv.state in
      let same = operated_plain c op kd at first.value later (expression g c right) first.state plain in
      let within2 : IsWithin second.state f = subst (λ (part : Part PureTree). IsWithin part.state f) same within in
      let more = (any_later left st).more in
      let more1 = (save_later first.value later first.state).more in
      let more2 = (any_later right sv.state).more in
      let P = λ (part : Part PureTree). Same false k (Result unary_fits binary_fits f k here c o Homes Lives kinds base world used (core.binary op left right kd at) (length st.variables) (length part.state.variables) part.value)
      (ce.expression cc used (core.binary op left right kd at) here s n) (run_of f (first.pieces ++ part.pieces) t n) in
      subst P (sym same)
      (binary_same unary_fits binary_fits f k here c o Homes Lives kinds base world used op left right kd at (kinds_of.acts right) later (length st.variables) first second (ce.expression cc true left here s n) (ce.expression cc true right here) t n plain sound.0 low more more2 more1
      (within_before sv.state second.state f (any_later right sv.state) within2) h (next sv.state (over_later st sv.state over (later_both st first.state sv.state (any_later left st) (save_later first.value later first.state))) within2)
      (λ v s1 t1 d.
      let own = sets_above f here c o Homes Lives kinds base world (λ y. Reads y left) (length st.variables) (length sv.state.variables) sv.value (kind_of left) v d.after (omega (arith, low, more, more1)) d.value in
      (expression_fine f (λ t2. value f.arrays sv.value t2 ≡ is v) (length sv.state.variables) own g c (Taken o) (callees.fine (λ t2. value f.arrays sv.value t2 ≡ is v) (length sv.state.variables) own) right sv.state (le_refl (length sv.state.variables)) (sound_fits o right sound.2)
      (part_permitted f here c o Homes Lives kinds base world (λ y. Reads y left) (λ y. Changes y right) (effects right) (length st.variables) (length sv.state.variables) sv.value (kind_of left) v d.after later low (le_trans more more1) d.value d.safe
      (λ y e. changed_variable o y right sound.2 e) (sound.3 plain) (λ e. e) (λ e. e) own)).allowed))

  -- ---- subscripts and elements

  pub operands_runs : (first : CoreTree) (rest : CoreTrees) (later : Effects) (before : List PureTree) (bs : List ℤ) (st : State) (s : Cells) (t : Store) (n : ℕ) → AreSound o (core.more first rest) → IsOver c base world.array_base world.seen st
      → IsWithin (operands g c (core.more first rest) later before st).state f
      → Same false k (Does true first st (expression g c first st)) (ce.expression cc true first here s n) (run_of f (expression g c first st).pieces t n)
      → ((st1 : State) (before1 : List PureTree) (bs1 : List ℤ) → IsOver c base world.array_base world.seen st1 → IsWithin (operands g c rest later before1 st1).state f → (s1 : Cells) (t1 : Store) (n1 : ℕ) → n1 ≤ k → IsShown f Homes Lives kinds s1 t1 → IsTyped f t1
      → Same false k (OperandsDone f here c o Homes Lives kinds base world rest later (length st1.variables) (length (operands g c rest later before1 st1).state.variables) before1 (operands g c rest later before1 st1).value bs1) (ce.numbers cc rest bs1 here s1 n1)
      (run_of f (operands g c rest later before1 st1).pieces t1 n1))
      → Same false k (OperandsDone f here c o Homes Lives kinds base world (core.more first rest) later (length st.variables) (length (operands g c (core.more first rest) later before st).state.variables) before (operands g c (core.more first rest) later before st).value bs)
      (ce.numbers cc (core.more first rest) bs here s n) (run_of f (operands g c (core.more first rest) later before st).pieces t n)
  unfolding then_
  operands_runs first rest later before bs st s t n sound over within h next =
      let low = over.low in
      let x = expression g c first st in
      let behind = effects_of_all rest in
      let both = either behind later in
      let sv = save c.file_variables x.value both x.state in
      let part = operands g c rest later (before ++ sv.value ∷ []) sv.state in
      let more = (any_later first st).more in
      let more1 = (save_later x.value both x.state).more in
      let last = all_later rest later (before ++ sv.value ∷ []) sv.state in
      more_done unary_fits binary_fits f k here c o Homes Lives kinds base world first rest behind later (length st.variables) before bs x part (ce.expression cc true first here s n) (λ v. ce.numbers cc rest (bs ++ v ∷ []) here) t n low more more1 last.more
      (within_before sv.state part.state f last within) h
      (λ v s1 t1 n1 le shown typed. next sv.state (before ++ sv.value ∷ []) (bs ++ v ∷ []) (over_later st sv.state over (later_both st x.state sv.state (any_later first st) (save_later x.value both x.state))) within s1 t1 n1 le shown typed)
      (λ v s1 t1 d.
      let own = sets_above f here c o Homes Lives kinds base world (λ y. Reads y first) (length st.variables) (length sv.state.variables) sv.value (kind_of first) v d.after (omega (arith, low, more, more1)) d.value in
      (operands_fine f (λ t2. value f.arrays sv.value t2 ≡ is v) (length sv.state.variables) own g c (Taken o) (callees.fine (λ t2. value f.arrays sv.value t2 ≡ is v) (length sv.state.variables) own) rest later (before ++ sv.value ∷ []) sv.state (le_refl (length sv.state.variables)) (sounds_fit o rest sound.1)
      (part_permitted f here c o Homes Lives kinds base world (λ y. Reads y first) (λ y. AnyChanges y rest) behind (length st.variables) (length sv.state.variables) sv.value (kind_of first) v d.after both low (le_trans more more1) d.value d.safe
      (λ y e. any_variable o y rest sound.1 e) sound.2 (λ e. or_left behind.calls later.calls e) (λ e. spoils_or behind.calls behind.changes later.calls later.changes e) own)).allowed)

  pub element_runs : (used : Bool) (cell : Cell) (subscripts : CoreTrees) (kd : CType) (at : Place) (st : State) (s : Cells) (t : Store) (n : ℕ) → IsOver c base world.array_base world.seen st → o.Array cell kd
      → Same false k (OperandsDone f here c o Homes Lives kinds base world subscripts no_effects (length st.variables) (length (operands g c subscripts no_effects [] st).state.variables) [] (operands g c subscripts no_effects [] st).value [])
      (ce.numbers cc subscripts [] here s n) (run_of f (operands g c subscripts no_effects [] st).pieces t n)
      → Same false k (Does used (core.element cell subscripts kd at) st (expression g c (core.element cell subscripts kd at) st)) (ce.expression cc used (core.element cell subscripts kd at) here s n) (run_of f (expression g c (core.element cell subscripts kd at) st).pieces t n)
  unfolding then_
  element_runs used cell subscripts kd at st s t n over is_array h =
      let all = operands g c subscripts no_effects [] st in
      let low = length st.variables in
      let high = length all.state.variables in
      let e = core.element cell subscripts kd at in
      let Q = λ (ys : List PureTree). Result unary_fits binary_fits f k here c o Homes Lives kinds base world used e low high (tree.element (array c cell all.state) (row ys) kd at) in
      on_same f k (OperandsDone f here c o Homes Lives kinds base world subscripts no_effects low high [] all.value []) (Q all.value) all.pieces [] (ce.numbers cc subscripts [] here s n)
      (λ js s1 n1. ce.read (ce.unset_rule js) (spot_of here cell) js at s1 n1) t n h (λ js s1 w t1 a. a.done.on_)
      (λ js s1 w t1 n1 le a.
      subst (λ ys. Same false k (Q ys) (ce.read (ce.unset_rule js) (spot_of here cell) js at s1 n1) (run_of f [] t1 n1)) (sym a.is_given)
      (subst (λ zs. Same false k (Q a.ys) (ce.read (ce.unset_rule zs) (spot_of here cell) zs at s1 n1) (run_of f [] t1 n1)) (sym a.is_values)
      (element_same unary_fits binary_fits f k here c o Homes Lives kinds base world used cell subscripts kd at low high a.ys all.state a.vs s1 t1 n1 le (over_later st all.state over (all_later subscripts no_effects [] st)).noted is_array a.done.shown a.done.typed a.values)))

  -- ---- commas

  pub discard_goes : (b : Bool) (x : PureTree) (st : State) (s : Cells) (t : Store) → base ≤ length st.variables → IsWithin (discarded b x st).state f → IsShown f Homes Lives kinds s t → IsTyped f t → (b ≡ false → (v : ℤ) × (value f.arrays x t ≡ is v) × HasTypes f x)
      → (t1 : Store) × Goes f (discarded b x st).pieces t t1 × IsShown f Homes Lives kinds s t1 × IsTyped f t1
  unfolding then_
  discard_goes true x st s t low within shown typed there = (t, goes_nothing f t, shown, typed)
  discard_goes false x st s t low within shown typed there =
      let w = there refl in
      let number = value_number unary_fits binary_fits f x t w.0 typed w.2 w.1 in
      let q = goes_own f (kind x) x st t w.0 within w.1 number in
      let own = length st.variables in (
        with_variable own w.0 t,
        goes_behind f (set_own (kind x) x st).pieces [] t (with_variable own w.0 t) (with_variable own w.0 t) q.0 (goes_nothing f (with_variable own w.0 t)),
        shown_apart f Homes Lives kinds base s t (with_variable own w.0 t) world.below (λ i lt. number_other t.variables own i w.0 (λ z. omega (arith, lt, low, z))) (λ a i. refl) shown,
        typed_set f t own w.0 typed (subst (λ z. IsNumber z w.0) (sym q.1) number),
      )

  pub discard_later : (b : Bool) (x : PureTree) (st : State) → IsLater st (discarded b x st).state
  unfolding then_
  discard_later true x st = later_same st
  discard_later false x st = later_own (kind x) x st

  comma_by : (b : Bool) (left : CoreTree) (x : PureTree) (later : Effects) (low : ℕ) (v : ℤ) (st : State) (s : Cells) (t : Store) → is_call left ≡ b → base ≤ low → low ≤ length st.variables
      → IsWithin (if b then gives tt st else then_ (save c.file_variables x later st) (λ y s1. discarded (may_be_unused left) y s1)).state f
      → IsShown f Homes Lives kinds s t → IsTyped f t → (Matters false left → IsValue f c (λ y. Reads y left) low (length st.variables) x (kind_of left) v t)
      → (t1 : Store) × Goes f (if b then gives tt st else then_ (save c.file_variables x later st) (λ y s1. discarded (may_be_unused left) y s1)).pieces t t1 × IsShown f Homes Lives kinds s t1 × IsTyped f t1
  unfolding then_
  comma_by true left x later low v st s t e low_base low_st within shown typed there = (t, goes_nothing f t, shown, typed)
  comma_by false left x later low v st s t e low_base low_st within shown typed there =
      let sv = save c.file_variables x later st in
      let u = discarded (may_be_unused left) sv.value sv.state in
      let d = save_well f here c o Homes Lives kinds base world unary_fits binary_fits (λ y. Reads y left) low x (kind_of left) v later st s t low_base low_st shown typed (there (call_or_matters left e))
      (within_before sv.state u.state f (discard_later (may_be_unused left) sv.value sv.state) within) in
      let g = discard_goes (may_be_unused left) sv.value sv.state s d.after (le_trans low_base (le_trans low_st (save_later x later st).more)) within d.shown d.typed (λ z. (v, d.value.same, d.value.types)) in
      (g.0, goes_behind f sv.pieces u.pieces t d.after g.0 d.goes g.1, g.2, g.3)

  comma_left_goes : (left : CoreTree) (x : PureTree) (later : Effects) (low : ℕ) (v : ℤ) (st : State) (s : Cells) (t : Store) → base ≤ low → low ≤ length st.variables → IsWithin (comma_left c.file_variables left x later st).state f
      → IsShown f Homes Lives kinds s t → IsTyped f t → (Matters false left → IsValue f c (λ y. Reads y left) low (length st.variables) x (kind_of left) v t)
      → (t1 : Store) × Goes f (comma_left c.file_variables left x later st).pieces t t1 × IsShown f Homes Lives kinds s t1 × IsTyped f t1
  comma_left_goes left x later low v st s t low_base low_st within shown typed there = comma_by (is_call left) left x later low v st s t refl low_base low_st within shown typed there

  pub comma_left_later : (left : CoreTree) (x : PureTree) (later : Effects) (st : State) → IsLater st (comma_left c.file_variables left x later st).state
  comma_left_later left x later st =
      (comma_left_fine f (λ t. Unit {0}) 0 (λ i le t y u. tt) c.file_variables left x later st (omega arith)).later

  pub comma_runs : (used : Bool) (left right : CoreTree) (st : State) (s : Cells) (t : Store) (n : ℕ) → IsOver c base world.array_base world.seen st → IsWithin (expression g c (core.comma left right) st).state f
      → Same false k (Does false left st (expression g c left st)) (ce.expression cc false left here s n) (run_of f (expression g c left st).pieces t n)
      → ((st1 : State) → IsOver c base world.array_base world.seen st1 → IsWithin (expression g c right st1).state f → (s1 : Cells) (t1 : Store) (n1 : ℕ) → n1 ≤ k → IsShown f Homes Lives kinds s1 t1 → IsTyped f t1
      → Same false k (Does true right st1 (expression g c right st1)) (ce.expression cc true right here s1 n1) (run_of f (expression g c right st1).pieces t1 n1))
      → Same false k (Does used (core.comma left right) st (expression g c (core.comma left right) st)) (ce.expression cc used (core.comma left right) here s n) (run_of f (expression g c (core.comma left right) st).pieces t n)
  unfolding then_
  comma_runs used left right st s t n over within h next =
      let low = over.low in
      let x = expression g c left st in
      let u = comma_left c.file_variables left x.value (effects right) x.state in
      let y = expression g c right u.state in
      let more = (any_later left st).more in
      let dropped = comma_left_later left x.value (effects right) x.state in
      let more1 = dropped.more in
      let within1 = within_before u.state y.state f (any_later right u.state) within in
      comma_same unary_fits binary_fits f k here c o Homes Lives kinds base world used left right (length st.variables) (length u.state.variables) (length x.state.variables) (length y.state.variables) x.value y.value x.pieces u.pieces y.pieces
      (ce.expression cc false left here s n) (ce.expression cc true right here) t n (le_trans more more1) h
      (λ v s1 t1 a. comma_left_goes left x.value (effects right) (length st.variables) v x.state s1 t1 low more within1 a.done.shown a.done.typed a.value)
      (next u.state (over_later st u.state over (later_both st x.state u.state (any_later left st) dropped)) within)
