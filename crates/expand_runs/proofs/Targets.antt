-- Assignments, `++` and `--`, behind the subscripts and the value.
use Rattle.std.proofs.Common.{◌≡◌, ◌≢◌, ℕ, ◌≤◌, ◌<◌, ◌∙◌, sym, refl, ap, subst, ℤ, pos, Bool, true, false, List, [], ◌∷◌, ◌++◌, length, Option, Some, None, slice_get, le_refl, le_trans, arith, if◌then◌else◌, inr}
use Rattle.std.proofs.lemmas.Option.{same_Some}
use Rattle.std.proofs.lemmas.List.{length-append, append-nil}
use Rattle.hls_base.specs.declared.place.Place.{Place}
use Rattle.hls_base.specs.declared.number.VarId.{VarId}
use Rattle.c_token.specs.declared.ctype.CType.{CType}
use Rattle.c_tree.specs.declared.operator.Binary.{Binary}
use Rattle.c_tree.specs.declared.operator.Binary.TheVariants as b
use Rattle.c_value.specs.Values.{int_type, convert}
use Rattle.c_value.specs.Operators.{binary_kind, binary_value, defined}
use Rattle.c_meaning.specs.Store.{element_in, element_place}
use Rattle.pieces.specs.declared.resolved.expression.Cell.{Cell}
use Rattle.pieces.specs.Resolved.Core as core
use Rattle.pieces.specs.Resolved.Core.{CoreTree, CoreTrees}
use Rattle.pieces.specs.Trees as tree
use Rattle.pieces.specs.Trees.{PureTree, PureTrees, PieceTree, row}
use Rattle.pieces.specs.Kind.{kind}
use Rattle.piece_making.specs.declared.frame.Home.{Home}
use Rattle.piece_making.specs.declared.frame.Home.TheVariants as home
use Rattle.piece_making.specs.Making.{State, Part, then_, emit, fresh, variable_number}
use Rattle.piece_making.specs.Saving.{is_logical}
use Rattle.piece_making.specs.Calls.{Call, scalar, array, array_in}
use Rattle.piece_making.specs.Assigning as making
use Rattle.piece_making.specs.Assigning.{change, step, one, read_at, store_at, target_read, bumped_behind, apply}
use Rattle.hls_base.specs.Steps as Steps
use Rattle.hls_base.specs.Steps.{Ran, goes, Outcome, ran, went, undefined, waiting}
use Rattle.hls_base.specs.Valued.{is, and_then}
use Rattle.hls_base.specs.Same.{Same}
use Rattle.c_meaning.specs.CoreRuns.Cells.{Spot, Cells, Here, spot_of}
use Rattle.c_meaning.specs.CoreRuns.Kinds.{kind_of}
use Rattle.c_meaning.specs.CoreRuns.Expressions as ce
use Rattle.c_meaning.specs.CoreRuns.Expressions.{CoreCalls}
use Rattle.c_meaning.specs.PieceRuns.Values.{Store, lengths_in, computed, joined, element_at, element_number, value, values, with_variable}
use Rattle.c_meaning.specs.PieceRuns.Pieces.{Frame, Way, on, type_of, kind_at}
use Rattle.c_expand.specs.Expressions.{Callee}
use Rattle.expand_runs.specs.Reading.{IsTyped, IsNumber, AllRead, EachReads, HasTypes, EachHasTypes, UnaryFits, BinaryFits, variable_type}
use Rattle.expand_runs.specs.Growing.{IsWithin}
use Rattle.expand_runs.specs.Showing.{Known, IsShown}
use Rattle.expand_runs.specs.Sound.{Objects, IsPlain, Reads}
use Rattle.expand_runs.specs.Evaluating.{Evaluated}
use Rattle.expand_runs.specs.Worlds.{IsWorld, AreNoted}
use Rattle.expand_runs.proofs.Growing.{last_one}
use Rattle.expand_runs.proofs.Sames.{goes_same, same_more, same_as, then_each}
use Rattle.expand_runs.proofs.Rows.{run_of}
use Rattle.expand_runs.proofs.Going.{Goes, goes_set}
use Rattle.expand_runs.proofs.Reading.{values_agree}
use Rattle.expand_runs.proofs.Typing.{joined_plain, converted_number, value_number, number_here, number_other, typed_set}
use Rattle.expand_runs.proofs.Showing.{shown_apart}
use Rattle.expand_runs.proofs.Evaluating.{on_same, goes_first, read_then, computed_then}
use Rattle.expand_runs.proofs.Operands.{variable_there, array_named}
use Rattle.expand_runs.proofs.ExpressionParts.{Result}
use Rattle.expand_runs.proofs.Stores.{Stored, scalar_stored, element_stored}
use Rattle.expand_runs.proofs.Assigned.{stored_converted, own_stored}
use Rattle.hls_base.specs.declared.point.Point.{Point}
use Rattle.hls_base.specs.declared.number.ArrayId.{ArrayId}

-- nothing is done behind a part
goes_behind_at : {S A : Type 0} (trace : List Point) (x : Outcome S A) → Steps.then_ (ran trace x) (λ v s n. goes v s n) ≡ ran trace x
goes_behind_at trace (went v s n) = ap (λ l. ran l (went v s n)) (append-nil trace)
goes_behind_at trace (undefined rule at) = ap (λ l. ran l (undefined rule at)) (append-nil trace)
goes_behind_at trace waiting = ap (λ l. ran l waiting) (append-nil trace)

pub goes_behind : {S A : Type 0} (r : Ran S A) → Steps.then_ r (λ v s n. goes v s n) ≡ r
goes_behind r = goes_behind_at r.trace r.outcome

module _ (unary_fits : UnaryFits) (binary_fits : BinaryFits) (f : Frame) (k : ℕ) (here : Here) (c : Call) (o : Objects) (Homes : Spot → Home → Type 0) (Lives : Spot → Type 0) (kinds : Known) (base : ℕ) (world : IsWorld f here c o Homes Lives kinds base) where
  -- What is read in the place of a target has its value and type.
  pub record IsRead (x : PureTree) (kd : CType) (v : ℤ) (t : Store) : Type 0 where
    pub same : value f.arrays x t ≡ is v
    pub type : kind x ≡ kd
    pub types : HasTypes f x

  -- A scalar or an element, whose subscripts have these values: what is written there is read, and what is stored in it is stored in its place, where the variables below a number hold the same still.
  pub record IsTargetAt (cell : Cell) (kd : CType) (place : Place) (xs : PureTrees) (vs : List ℤ) (low : ℕ) (s : Cells) (t : Store) : Type 0 where
    pub lengths : List ℕ
    pub is_lengths : (s (spot_of here cell)).lengths ≡ lengths
    pub there : (st : State) → AreNoted c world.seen st → (j : ℕ) (v : ℤ) → element_place lengths vs ≡ Some j → element_in (slice_get (s (spot_of here cell)).elements j) ≡ Some v → IsRead (read_at c cell kd place xs st) kd v t
    pub stored : (st : State) → AreNoted c world.seen st → (t1 : Store) → ((i : ℕ) → i < low → t1.variables i ≡ t.variables i) → ((a i : ℕ) → t1.elements a i ≡ t.elements a i) → IsShown f Homes Lives kinds s t1 → IsTyped f t1
        → (y : PureTree) (r : ℤ) (n : ℕ) → n ≤ k → value f.arrays y t1 ≡ is r → Same false k (Stored f k here c o Homes Lives kinds base world kd r t1) (ce.store (spot_of here cell) vs kd r place s n) (run_of f (store_at c cell place xs y st).pieces t1 n)

  pub target_scalar : (cell : Cell) (kd : CType) (place : Place) (low : ℕ) (s : Cells) (t : Store) → o.Variable cell kd → IsShown f Homes Lives kinds s t → IsTargetAt cell kd place tree.none [] low s t
  target_scalar cell kd place low s t is_variable shown =
      let w = world.variables cell kd is_variable in
      let q = variable_there f here c o Homes Lives kinds base world cell kd 0 0 s t w.0 w.1 w.2 shown in
      record {
        lengths = [];
        is_lengths = q.lengths;
        there = λ st noted j v e there. (
            let a = q.there v (ap (λ z. element_in (slice_get (s (spot_of here cell)).elements z)) (same_Some 0 j e) ∙ there) in
            record { same = a.same; type = a.type; types = a.types });
        stored = λ st noted t1 below elements shown1 typed y r n le e. scalar_stored f k here c o Homes Lives kinds base world cell kd place place y st s t1 r n le is_variable shown1 typed e;
      }

  pub target_element : (cell : Cell) (kd : CType) (place : Place) (x : PureTree) (xs : PureTrees) (vs : List ℤ) (low : ℕ) (s : Cells) (t : Store) → o.Array cell kd → IsShown f Homes Lives kinds s t → values f.arrays (tree.more x xs) t ≡ is vs
      → EachReads (λ i. i < low) (tree.more x xs) → EachHasTypes f (tree.more x xs) → (st0 : State) → AreNoted c world.seen st0 → IsTargetAt cell kd place (tree.more x xs) vs low s t
  target_element cell kd place x xs vs low s t is_array shown e reads types st0 noted0 =
      let w = world.arrays cell kd is_array in
      let q = shown.objects (spot_of here cell) (home.Array w.0) w.1 w.2 in
      record {
        lengths = lengths_in (slice_get f.arrays w.0.0);
        is_lengths = q.1;
        there = λ st noted j v place_ there. (
            let name = array_named f here c o Homes Lives kinds base world cell kd st noted is_array in
            record {
              same =
                  ap (λ r. and_then r (λ js. element_at (array c cell st).0 (element_number f.arrays (array c cell st).0 js) place t)) e
                  ∙ ap (λ (z : ArrayId). element_at z.0 (element_number f.arrays z.0 vs) place t) name
                  ∙ ap (λ z. element_at w.0.0 z place t) place_ ∙ ap is (q.2 j v there);
              type = refl;
              types = (ap (λ (z : ArrayId). kind_at f.arrays z.0) name ∙ w.4, types);
            });
        stored = λ st noted t1 below elements shown1 typed y r n le there.
            element_stored f k here c o Homes Lives kinds base world cell kd place place x xs y st vs s t1 r n le noted is_array shown1 typed (values_agree f.arrays (λ i. i < low) t t1 below (tree.more x xs) reads elements ∙ e) there;
      }

  -- ---- the value is set first, and then stored

  own_type : (kd : CType) (st : State) → IsWithin (fresh kd st).state f → variable_type f (length st.variables) ≡ kd
  unfolding fresh
  own_type kd st within = ap type_of (within.variables (length st.variables) kd (last_one st.variables kd))

  -- the number that is computed is stored, and stands in a variable of its own
  stored_own : (used : Bool) (e : CoreTree) (cell : Cell) (kd : CType) (place : Place) (xs : PureTrees) (vs : List ℤ) (low_result : ℕ) (st : State) (s : Cells) (t : Store) (n : ℕ) (y : PureTree) (r : ℤ) (at : Place) (op : Option Binary) → n ≤ k → kind_of e ≡ kd → base ≤ low_result → low_result ≤ length st.variables
      → AreNoted c world.seen st → IsWithin (fresh kd st).state f → IsTargetAt cell kd place xs vs (length st.variables) s t → IsShown f Homes Lives kinds s t → IsTyped f t → value f.arrays y t ≡ is r
      → Same false k (Result unary_fits binary_fits f k here c o Homes Lives kinds base world used e low_result (length (fresh kd st).state.variables) (tree.variable (fresh kd st).value kd)) (ce.store (spot_of here cell) vs kd r place s n)
      (run_of f ((tree.set (fresh kd st).value y ∷ []) ++ ((store_at c cell place xs (tree.variable (fresh kd st).value kd) (emit (tree.set (fresh kd st).value y) (fresh kd st).state).state).pieces ++ [])) t n)
  unfolding emit fresh
  stored_own used e cell kd place xs vs low_result st s t n y r at op le type low_base low_st noted within target shown typed there =
      let own = length st.variables in
      let z = tree.variable (fresh kd st).value kd in
      let last = (emit (tree.set (fresh kd st).value y) (fresh kd st).state).state in
      let ys = (store_at c cell place xs z last).pieces in
      own_stored unary_fits binary_fits f k here c o Homes Lives kinds base world used e kd y low_result st s t r n (ce.store (spot_of here cell) vs kd r place s n) ys type low_base low_st within there shown typed
      (λ t2 is_ shown2 typed2.
      let r' = convert kd r in
      let there2 : value f.arrays z t2 ≡ is r' = ap is (ap (λ (z : Store). z.variables own) is_ ∙ number_here t.variables own r') in
      let S = λ (i : ℤ). Stored f k here c o Homes Lives kinds base world kd i t2 in
      same_more k k (S r') (S r) (ce.store (spot_of here cell) vs kd r place s n) (run_of f ys t2 n) (le_refl k)
      (λ u s3 w3 t3 z. record { done = z.done; number = z.number ∙ converted_number kd r; kept = z.kept })
      (subst (λ q. Same false k (S r') q (run_of f ys t2 n)) (stored_converted (element_place (s (spot_of here cell)).lengths vs) (spot_of here cell) kd r place s n)
      (target.stored last noted t2 (λ i lt. ap (λ (z : Store). z.variables i) is_ ∙ number_other t.variables own i r' (λ q. omega (arith, lt, q))) (λ a i. ap (λ (z : Store). z.elements a i) is_) shown2 typed2 z r' n le there2)))

  -- what an operator computes of the old number and another one
  operated_value : (op : Binary) (kd : CType) (at : Place) (x by : PureTree) (old a r : ℤ) (kv : CType) (t : Store) → is_logical op ≡ false → IsRead x kd old t → value f.arrays by t ≡ is a → kind by ≡ kv → binary_value op kd old kv a ≡ defined r
      → value f.arrays (tree.binary op x by (binary_kind op kd (kind by)) at) t ≡ is r
  operated_value op kd at x by old a r kv t plain old_there there type defined_ =
      ap (λ p. and_then p (λ i. joined op (kind x) i (kind by) at (value f.arrays by t))) old_there.same
      ∙ ap (λ p. joined op p old (kind by) at (value f.arrays by t)) old_there.type
      ∙ ap (λ p. joined op kd old p at (value f.arrays by t)) type
      ∙ ap (λ p. joined op kd old kv at p) there
      ∙ joined_plain op kd old kv at (is a) plain
      ∙ ap (λ p. computed p at) defined_

  -- An assignment, with an operator or without one.
  pub assigned_same : (used : Bool) (e : CoreTree) (cell : Cell) (kd : CType) (place : Place) (xs : PureTrees) (vs : List ℤ) (op : Option Binary) (at : Place) (by : PureTree) (a : ℤ) (kv : CType) (low : ℕ) (st : State) (s : Cells) (t : Store) (n : ℕ) → n ≤ k → IsPlain op → kind_of e ≡ kd
      → base ≤ low → low ≤ length st.variables → AreNoted c world.seen st → IsWithin (making.assigned c (change cell kd place xs op at) by st).state f → IsTargetAt cell kd place xs vs (length st.variables) s t → IsShown f Homes Lives kinds s t → IsTyped f t
      → value f.arrays by t ≡ is a → kind by ≡ kv
      → Same false k (Result unary_fits binary_fits f k here c o Homes Lives kinds base world used e low (length (making.assigned c (change cell kd place xs op at) by st).state.variables) (making.assigned c (change cell kd place xs op at) by st).value) (ce.assigned op (spot_of here cell) vs kd place kv a at s n)
      (run_of f (making.assigned c (change cell kd place xs op at) by st).pieces t n)
  unfolding then_ emit fresh
  assigned_same used e cell kd place tree.none vs None at by a kv low st s t n le plain type low_base low_st noted within target shown typed there type_by =
      stored_own used e cell kd place tree.none vs low st s t n by a at None le type low_base low_st noted (record { variables = within.variables; arrays = within.arrays }) target shown typed there
  assigned_same used e cell kd place (tree.more x xs) vs None at by a kv low st s t n le plain type low_base low_st noted within target shown typed there type_by =
      stored_own used e cell kd place (tree.more x xs) vs low st s t n by a at None le type low_base low_st noted (record { variables = within.variables; arrays = within.arrays }) target shown typed there
  assigned_same used e cell kd place tree.none vs (Some op) at by a kv low st s t n le plain type low_base low_st noted within target shown typed there type_by =
      let x = read_at c cell kd place tree.none st in
      let z = tree.binary op x by (binary_kind op kd (kind by)) at in
      read_then k _ (ce.unset_rule vs) (spot_of here cell) vs target.lengths place s n (λ old s2 n2. Steps.then_ (ce.computed (binary_value op kd old kv a) at s2 n2) (λ r s3 n3. ce.store (spot_of here cell) vs kd r place s3 n3)) _ target.is_lengths
      (λ j old is_place there0.
      computed_then k _ (binary_value op kd old kv a) at s n (λ r s3 n3. ce.store (spot_of here cell) vs kd r place s3 n3) _
      (λ r defined_.
      stored_own used e cell kd place tree.none vs low st s t n z r at (Some op) le type low_base low_st noted (record { variables = within.variables; arrays = within.arrays }) target shown typed
      (operated_value op kd at x by old a r kv t plain (target.there st noted j old is_place there0) there type_by defined_)))
  assigned_same used e cell kd place (tree.more x0 xs) vs (Some op) at by a kv low st s t n le plain type low_base low_st noted within target shown typed there type_by =
      let x = read_at c cell kd place (tree.more x0 xs) st in
      let z = tree.binary op x by (binary_kind op kd (kind by)) at in
      read_then k _ (ce.unset_rule vs) (spot_of here cell) vs target.lengths place s n (λ old s2 n2. Steps.then_ (ce.computed (binary_value op kd old kv a) at s2 n2) (λ r s3 n3. ce.store (spot_of here cell) vs kd r place s3 n3)) _ target.is_lengths
      (λ j old is_place there0.
      computed_then k _ (binary_value op kd old kv a) at s n (λ r s3 n3. ce.store (spot_of here cell) vs kd r place s3 n3) _
      (λ r defined_.
      stored_own used e cell kd place (tree.more x0 xs) vs low st s t n z r at (Some op) le type low_base low_st noted (record { variables = within.variables; arrays = within.arrays }) target shown typed
      (operated_value op kd at x by old a r kv t plain (target.there st noted j old is_place there0) there type_by defined_)))

  -- ---- `++` and `--`

  abbrev sign : Bool → Binary
  sign up = if up then b.Add else b.Sub

  sign_plain : (up : Bool) → is_logical (sign up) ≡ false
  sign_plain true = refl
  sign_plain false = refl

  sign_step : (up : Bool) → step up ≡ Some (sign up)
  sign_step true = refl
  sign_step false = refl

  -- before a target: the new number
  pub bumped_before : (used : Bool) (e : CoreTree) (cell : Cell) (kd : CType) (place : Place) (xs : PureTrees) (vs : List ℤ) (up : Bool) (at : Place) (low : ℕ) (st : State) (s : Cells) (t : Store) (n : ℕ) → n ≤ k → kind_of e ≡ kd
      → base ≤ low → low ≤ length st.variables → AreNoted c world.seen st → IsWithin (making.assigned c (change cell kd place xs (step up) at) one st).state f → IsTargetAt cell kd place xs vs (length st.variables) s t → IsShown f Homes Lives kinds s t → IsTyped f t
      → Same false k (Result unary_fits binary_fits f k here c o Homes Lives kinds base world used e low (length (making.assigned c (change cell kd place xs (step up) at) one st).state.variables) (making.assigned c (change cell kd place xs (step up) at) one st).value) (ce.bumped up false (spot_of here cell) vs kd place at s n)
      (run_of f (making.assigned c (change cell kd place xs (step up) at) one st).pieces t n)
  bumped_before used e cell kd place xs vs up at low st s t n le type low_base low_st noted within target shown typed =
      let part = λ (op : Option Binary). making.assigned c (change cell kd place xs op at) one st in
      let Q = λ (op : Option Binary). Result unary_fits binary_fits f k here c o Homes Lives kinds base world used e low (length (part op).state.variables) (part op).value in
      let x = spot_of here cell in
      let last = λ (r : ℤ) (s3 : Cells) (n3 : ℕ). ce.store x vs kd r place s3 n3 in
      let middle = λ (old : ℤ) (s2 : Cells) (n2 : ℕ). Steps.then_ (ce.computed (binary_value (sign up) kd old int_type (pos 1)) at s2 n2) last in
      let equal : ce.bumped up false x vs kd place at s n ≡ Steps.then_ (ce.read (ce.unset_rule vs) x vs place s n) middle =
      then_each (ce.read (ce.unset_rule vs) x vs place s n) (λ old s2 n2. Steps.then_ (ce.computed (binary_value (sign up) kd old int_type (pos 1)) at s2 n2) (λ r s3 n3. Steps.then_ (ce.store x vs kd r place s3 n3) (λ v s4 n4. goes v s4 n4))) middle
      (λ old s2 n2. then_each (ce.computed (binary_value (sign up) kd old int_type (pos 1)) at s2 n2) (λ r s3 n3. Steps.then_ (ce.store x vs kd r place s3 n3) (λ v s4 n4. goes v s4 n4)) last (λ r s3 n3. goes_behind (ce.store x vs kd r place s3 n3))) in
      subst (λ op. Same false k (Q op) (ce.bumped up false x vs kd place at s n) (run_of f (part op).pieces t n)) (sym (sign_step up))
      (subst (λ q. Same false k (Q (Some (sign up))) q (run_of f (part (Some (sign up))).pieces t n)) (sym equal)
      (assigned_same used e cell kd place xs vs (Some (sign up)) at one (pos 1) int_type low st s t n le (sign_plain up) type low_base low_st noted (subst (λ op. IsWithin (part op).state f) (sign_step up) within) target shown typed refl refl))

  -- behind a target: the number from before
  behind_stored : (used : Bool) (e : CoreTree) (cell : Cell) (kd : CType) (place : Place) (xs : PureTrees) (vs : List ℤ) (op : Binary) (at : Place) (low : ℕ) (st : State) (s : Cells) (t : Store) (n : ℕ) (x : PureTree) (old r : ℤ) → n ≤ k → is_logical op ≡ false → kind_of e ≡ kd
      → base ≤ low → low ≤ length st.variables → AreNoted c world.seen st → IsWithin (fresh kd st).state f → IsTargetAt cell kd place xs vs (length st.variables) s t → IsShown f Homes Lives kinds s t → IsTyped f t
      → IsRead x kd old t → binary_value op kd old int_type (pos 1) ≡ defined r
      → Same false k (Result unary_fits binary_fits f k here c o Homes Lives kinds base world used e low (length (fresh kd st).state.variables) (tree.variable (fresh kd st).value kd)) (Steps.then_ (ce.store (spot_of here cell) vs kd r place s n) (λ v s1 n1. goes old s1 n1))
      (run_of f ((tree.set (fresh kd st).value x ∷ []) ++ ((store_at c cell place xs (tree.binary op (tree.variable (fresh kd st).value kd) one (binary_kind op kd (kind one)) at) (emit (tree.set (fresh kd st).value x) (fresh kd st).state).state).pieces ++ [])) t n)
  unfolding emit fresh
  behind_stored used e cell kd place xs vs op at low st s t n x old r le plain type low_base low_st noted within target shown typed is_read defined_ =
      let own = length st.variables in
      let z = tree.variable (variable_number own) kd in
      let y = tree.binary op z one (binary_kind op kd (kind one)) at in
      let last = (emit (tree.set (fresh kd st).value x) (fresh kd st).state).state in
      let ys = (store_at c cell place xs y last).pieces in
      let type_own = own_type kd st within in
      let number : IsNumber kd old = subst (λ i. IsNumber i old) is_read.type (value_number unary_fits binary_fits f x t old typed is_read.types is_read.same) in
      let t1 = with_variable own old t in
      let S = Stored f k here c o Homes Lives kinds base world kd r t1 in
      let longer = length-append st.variables (kd ∷ []) in
      let Q = Result unary_fits binary_fits f k here c o Homes Lives kinds base world used e low (length (st.variables ++ kd ∷ [])) z in
      let there1 : value f.arrays z t1 ≡ is old = ap is (number_here t.variables own old) in
      goes_first f k Q (tree.set (variable_number own) x ∷ []) (ys ++ []) (Steps.then_ (ce.store (spot_of here cell) vs kd r place s n) (λ v s1 n1. goes old s1 n1)) t t1 n
      (λ m. goes_set f own x t old is_read.same m ∙ ap (λ i. goes on (with_variable own i t) m) (ap (λ i. convert i old) type_own ∙ number))
      (on_same f k S Q ys [] (ce.store (spot_of here cell) vs kd r place s n) (λ v s1 n1. goes old s1 n1) t1 n
      (target.stored last noted t1 (λ i lt. number_other t.variables own i old (λ q. omega (arith, lt, q))) (λ a i. refl)
      (shown_apart f Homes Lives kinds base s t t1 world.below (λ i lt. number_other t.variables own i old (λ q. omega (arith, lt, low_base, low_st, q))) (λ a i. refl) shown)
      (typed_set f t own old typed (subst (λ i. IsNumber i old) (sym type_own) number)) y r n le
      (operated_value op kd at z one old (pos 1) r int_type t1 plain (record { same = there1; type = refl; types = type_own }) refl refl defined_))
      (λ v s1 w t2 h. h.done.on_)
      (λ v s1 w t2 n1 le1 h.
      goes_same k Q old s1 on t2 n1 le1 (record {
        done = record { on_ = refl; shown = h.done.shown; typed = h.done.typed };
        value = λ m. record {
          same = ap is (h.kept own (le_trans low_base low_st) ∙ number_here t.variables own old);
          type = sym type;
          types = type_own;
          reads = inr (low_st, (let q : own < length (st.variables ++ kd ∷ []) = omega (arith, longer) in q));
        };
      })))

  behind_read : (used : Bool) (e : CoreTree) (cell : Cell) (kd : CType) (place : Place) (xs : PureTrees) (vs : List ℤ) (op : Binary) (at : Place) (low : ℕ) (st : State) (s : Cells) (t : Store) (n : ℕ) → n ≤ k → is_logical op ≡ false → kind_of e ≡ kd
      → base ≤ low → low ≤ length st.variables → AreNoted c world.seen st → IsWithin (bumped_behind c (change cell kd place xs (Some op) at) st).state f → IsTargetAt cell kd place xs vs (length st.variables) s t → IsShown f Homes Lives kinds s t → IsTyped f t
      → Same false k (Result unary_fits binary_fits f k here c o Homes Lives kinds base world used e low (length (bumped_behind c (change cell kd place xs (Some op) at) st).state.variables) (bumped_behind c (change cell kd place xs (Some op) at) st).value)
      (Steps.then_ (ce.read (ce.unset_rule vs) (spot_of here cell) vs place s n) (λ old s2 n2. Steps.then_ (ce.computed (binary_value op kd old int_type (pos 1)) at s2 n2) (λ r s3 n3. Steps.then_ (ce.store (spot_of here cell) vs kd r place s3 n3) (λ v s4 n4. goes old s4 n4))))
      (run_of f (bumped_behind c (change cell kd place xs (Some op) at) st).pieces t n)
  unfolding then_ emit fresh
  behind_read used e cell kd place tree.none vs op at low st s t n le plain type low_base low_st noted within target shown typed =
      let x = spot_of here cell in
      read_then k _ (ce.unset_rule vs) x vs target.lengths place s n (λ old s2 n2. Steps.then_ (ce.computed (binary_value op kd old int_type (pos 1)) at s2 n2) (λ r s3 n3. Steps.then_ (ce.store x vs kd r place s3 n3) (λ v s4 n4. goes old s4 n4))) _ target.is_lengths
      (λ j old is_place there0.
      computed_then k _ (binary_value op kd old int_type (pos 1)) at s n (λ r s3 n3. Steps.then_ (ce.store x vs kd r place s3 n3) (λ v s4 n4. goes old s4 n4)) _
      (λ r defined_.
      behind_stored used e cell kd place tree.none vs op at low st s t n (read_at c cell kd place tree.none st) old r le plain type low_base low_st noted (record { variables = within.variables; arrays = within.arrays }) target shown typed
      (target.there st noted j old is_place there0) defined_))
  behind_read used e cell kd place (tree.more x0 xs) vs op at low st s t n le plain type low_base low_st noted within target shown typed =
      let x = spot_of here cell in
      read_then k _ (ce.unset_rule vs) x vs target.lengths place s n (λ old s2 n2. Steps.then_ (ce.computed (binary_value op kd old int_type (pos 1)) at s2 n2) (λ r s3 n3. Steps.then_ (ce.store x vs kd r place s3 n3) (λ v s4 n4. goes old s4 n4))) _ target.is_lengths
      (λ j old is_place there0.
      computed_then k _ (binary_value op kd old int_type (pos 1)) at s n (λ r s3 n3. Steps.then_ (ce.store x vs kd r place s3 n3) (λ v s4 n4. goes old s4 n4)) _
      (λ r defined_.
      behind_stored used e cell kd place (tree.more x0 xs) vs op at low st s t n (read_at c cell kd place (tree.more x0 xs) st) old r le plain type low_base low_st noted (record { variables = within.variables; arrays = within.arrays }) target shown typed
      (target.there st noted j old is_place there0) defined_))

  pub bumped_after : (used : Bool) (e : CoreTree) (cell : Cell) (kd : CType) (place : Place) (xs : PureTrees) (vs : List ℤ) (up : Bool) (at : Place) (low : ℕ) (st : State) (s : Cells) (t : Store) (n : ℕ) → n ≤ k → kind_of e ≡ kd
      → base ≤ low → low ≤ length st.variables → AreNoted c world.seen st → IsWithin (bumped_behind c (change cell kd place xs (step up) at) st).state f → IsTargetAt cell kd place xs vs (length st.variables) s t → IsShown f Homes Lives kinds s t → IsTyped f t
      → Same false k (Result unary_fits binary_fits f k here c o Homes Lives kinds base world used e low (length (bumped_behind c (change cell kd place xs (step up) at) st).state.variables) (bumped_behind c (change cell kd place xs (step up) at) st).value) (ce.bumped up true (spot_of here cell) vs kd place at s n)
      (run_of f (bumped_behind c (change cell kd place xs (step up) at) st).pieces t n)
  bumped_after used e cell kd place xs vs up at low st s t n le type low_base low_st noted within target shown typed =
      let part = λ (op : Option Binary). bumped_behind c (change cell kd place xs op at) st in
      let Q = λ (op : Option Binary). Result unary_fits binary_fits f k here c o Homes Lives kinds base world used e low (length (part op).state.variables) (part op).value in
      let x = spot_of here cell in
      subst (λ op. Same false k (Q op) (ce.bumped up true x vs kd place at s n) (run_of f (part op).pieces t n)) (sym (sign_step up))
      (behind_read used e cell kd place xs vs (sign up) at low st s t n le (sign_plain up) type low_base low_st noted (subst (λ op. IsWithin (part op).state f) (sign_step up) within) target shown typed)

  -- ---- changes whose values are not used

  abbrev Goes_on : ℤ → Cells → Way → Store → Type 0
  Goes_on v s w t = Evaluated f Homes Lives kinds s w t

  pub applied_same : (cell : Cell) (kd : CType) (place : Place) (xs : PureTrees) (vs : List ℤ) (op : Option Binary) (at : Place) (by : PureTree) (a : ℤ) (kv : CType) (low : ℕ) (st : State) (s : Cells) (t : Store) (n : ℕ) → n ≤ k → IsPlain op → AreNoted c world.seen st
      → IsTargetAt cell kd place xs vs low s t → IsShown f Homes Lives kinds s t → IsTyped f t → value f.arrays by t ≡ is a → kind by ≡ kv
      → Same false k (λ v s1 w t1. Evaluated f Homes Lives kinds s1 w t1) (ce.assigned op (spot_of here cell) vs kd place kv a at s n) (run_of f (apply c (change cell kd place xs op at) by st).pieces t n)
  applied_same cell kd place xs vs None at by a kv low st s t n le plain noted target shown typed there type =
      same_more k k (Stored f k here c o Homes Lives kinds base world kd a t) Goes_on (ce.store (spot_of here cell) vs kd a place s n) (run_of f (store_at c cell place xs by st).pieces t n) (le_refl k) (λ v s1 w t1 z. z.done)
      (target.stored st noted t (λ i lt. refl) (λ i j. refl) shown typed by a n le there)
  applied_same cell kd place xs vs (Some op) at by a kv low st s t n le plain noted target shown typed there type =
      let x = read_at c cell kd place xs st in
      let z = tree.binary op x by (binary_kind op kd (kind by)) at in
      read_then k Goes_on (ce.unset_rule vs) (spot_of here cell) vs target.lengths place s n (λ old s2 n2. Steps.then_ (ce.computed (binary_value op kd old kv a) at s2 n2) (λ r s3 n3. ce.store (spot_of here cell) vs kd r place s3 n3)) _ target.is_lengths
      (λ j old is_place there0.
      computed_then k Goes_on (binary_value op kd old kv a) at s n (λ r s3 n3. ce.store (spot_of here cell) vs kd r place s3 n3) _
      (λ r defined_.
      same_more k k (Stored f k here c o Homes Lives kinds base world kd r t) Goes_on (ce.store (spot_of here cell) vs kd r place s n) (run_of f (store_at c cell place xs z st).pieces t n) (le_refl k) (λ v s1 w t1 z. z.done)
      (target.stored st noted t (λ i lt. refl) (λ i j. refl) shown typed z r n le (operated_value op kd at x by old a r kv t plain (target.there st noted j old is_place there0) there type defined_))))

  pub applied_bump : (cell : Cell) (kd : CType) (place : Place) (xs : PureTrees) (vs : List ℤ) (up post : Bool) (at : Place) (low : ℕ) (st : State) (s : Cells) (t : Store) (n : ℕ) → n ≤ k → AreNoted c world.seen st
      → IsTargetAt cell kd place xs vs low s t → IsShown f Homes Lives kinds s t → IsTyped f t
      → Same false k (λ v s1 w t1. Evaluated f Homes Lives kinds s1 w t1) (ce.bumped up post (spot_of here cell) vs kd place at s n) (run_of f (apply c (change cell kd place xs (step up) at) one st).pieces t n)
  applied_bump cell kd place xs vs up post at low st s t n le noted target shown typed =
      let x = read_at c cell kd place xs st in
      let z = tree.binary (sign up) x one (binary_kind (sign up) kd int_type) at in
      let d = spot_of here cell in
      let ys = (store_at c cell place xs z st).pieces in
      subst (λ op. Same false k Goes_on (ce.bumped up post d vs kd place at s n) (run_of f (apply c (change cell kd place xs op at) one st).pieces t n)) (sym (sign_step up))
      (read_then k Goes_on (ce.unset_rule vs) d vs target.lengths place s n
      (λ old s2 n2. Steps.then_ (ce.computed (binary_value (sign up) kd old int_type (pos 1)) at s2 n2) (λ r s3 n3. Steps.then_ (ce.store d vs kd r place s3 n3) (λ v s4 n4. goes (if post then old else v) s4 n4))) _ target.is_lengths
      (λ j old is_place there0.
      computed_then k Goes_on (binary_value (sign up) kd old int_type (pos 1)) at s n (λ r s3 n3. Steps.then_ (ce.store d vs kd r place s3 n3) (λ v s4 n4. goes (if post then old else v) s4 n4)) _
      (λ r defined_.
      subst (λ zs. Same false k Goes_on (Steps.then_ (ce.store d vs kd r place s n) (λ v s4 n4. goes (if post then old else v) s4 n4)) (run_of f zs t n)) (append-nil ys)
      (on_same f k (Stored f k here c o Homes Lives kinds base world kd r t) Goes_on ys [] (ce.store d vs kd r place s n) (λ v s4 n4. goes (if post then old else v) s4 n4) t n
      (target.stored st noted t (λ i lt. refl) (λ i j. refl) shown typed z r n le (operated_value (sign up) kd at x one old (pos 1) r int_type t (sign_plain up) (target.there st noted j old is_place there0) refl refl defined_))
      (λ v s1 w t1 h. h.done.on_)
      (λ v s1 w t1 n1 le1 h. goes_same k Goes_on (if post then old else v) s1 on t1 n1 le1 (record { on_ = refl; shown = h.done.shown; typed = h.done.typed }))))))
