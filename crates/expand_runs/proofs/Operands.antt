-- Objects that are read, and operands that keep their values while later ones are evaluated.
use Rattle.std.proofs.Common.{◌≡◌, ◌≢◌, ℕ, ◌≤◌, ◌<◌, ◌∙◌, inl, inr, sym, refl, ap, subst, ℤ, Bool, true, false, List, [], ◌∷◌, ◌++◌, length, Some, slice_get, le_refl, le_trans, arith, if◌then◌else◌, Option, None}
use Rattle.std.proofs.lemmas.Bool.{false≢true}
use Rattle.hls_base.specs.declared.number.VarId.{VarId}
use Rattle.hls_base.specs.declared.number.ArrayId.{ArrayId}
use Rattle.c_token.specs.declared.ctype.CType.{CType}
use Rattle.c_value.specs.Values.{number_of}
use Rattle.c_meaning.specs.Store.{element_in}
use Rattle.pieces.specs.declared.resolved.expression.Cell.{Cell}
use Rattle.pieces.specs.Resolved.Core.{CoreTrees}
use Rattle.pieces.specs.Trees as tree
use Rattle.pieces.specs.Trees.{PureTree, PureTrees, row}
use Rattle.piece_making.specs.declared.frame.Home.{Home}
use Rattle.piece_making.specs.declared.frame.Home.TheVariants as home
use Rattle.piece_making.specs.declared.effects.Effects.{Effects}
use Rattle.piece_making.specs.Acting.{spoils, either}
use Rattle.piece_making.specs.Making.{State, Part, gives, noted}
use Rattle.piece_making.specs.Saving.{has_element, saved, save}
use Rattle.piece_making.specs.Calls.{Call, scalar, variable, variable_in, array, array_in, read_of, home_of}
use Rattle.hls_base.specs.Valued.{is}
use Rattle.c_meaning.specs.CoreRuns.Cells.{Spot, Cells, Here, spot_of}
use Rattle.c_meaning.specs.PieceRuns.Values.{Store, lengths_in, value}
use Rattle.c_meaning.specs.PieceRuns.Pieces.{Frame, Way, kind_at}
use Rattle.expand_runs.specs.Reading.{AllRead, IsNumber, IsTyped, variable_type, UnaryFits, BinaryFits}
use Rattle.expand_runs.specs.Growing.{IsWithin}
use Rattle.expand_runs.specs.Saving.{IsKept}
use Rattle.expand_runs.specs.Showing.{Known, IsShown}
use Rattle.expand_runs.specs.Sound.{Objects, AnyReads}
use Rattle.expand_runs.specs.Evaluating.{ComesOf, IsValue, AreValues, Evaluated, IsLinked}
use Rattle.expand_runs.specs.Worlds.{IsWorld, AreNoted, IsArrayOf}
use Rattle.expand_runs.proofs.Reading.{read_more, read_any, or_left, or_right}
use Rattle.expand_runs.proofs.Going.{Goes, goes_nothing}
use Rattle.expand_runs.proofs.SavedLater.{saved_later}
use Rattle.expand_runs.proofs.SavingRuns.{saved_well}
use Rattle.expand_runs.proofs.Showing.{shown_apart}
use Rattle.expand_runs.proofs.Fine.{Sets}
use Rattle.expand_runs.proofs.FineExpressions.{Permits, spoils_or2}
use Rattle.expand_runs.proofs.Evaluating.{sets_value, puts_value}
use Rattle.piece_making.specs.declared.work.Slot.{Slot}

module _ (f : Frame) (here : Here) (c : Call) (o : Objects) (Homes : Spot → Home → Type 0) (Lives : Spot → Type 0) (kinds : Known) (base : ℕ) (world : IsWorld f here c o Homes Lives kinds base) where
  abbrev Shown : Cells → Store → Type 0
  Shown s t = IsShown f Homes Lives kinds s t

  -- ---- objects that are read

  -- What is written of a scalar is the value of what is read in its place.
  pub record ScalarThere (x : Cell) (k : CType) (low high : ℕ) (s : Cells) (t : Store) : Type 0 where
    pub lengths : (s (spot_of here x)).lengths ≡ []
    pub there : (v : ℤ) → element_in (slice_get (s (spot_of here x)).elements 0) ≡ Some v → IsValue f c (λ y. y ≡ x) low high (scalar c x k) k v t

  pub variable_there : (x : Cell) (k : CType) (low high : ℕ) (s : Cells) (t : Store) (own : VarId) → IsLinked here c Homes Lives x (home.Variable own) → variable_type f own.0 ≡ k → Shown s t → ScalarThere x k low high s t
  variable_there x k low high s t own link type h =
      let q = h.objects (spot_of here x) (home.Variable own) link.1 link.2 in
      let is_name : scalar c x k ≡ tree.variable own k = ap (λ z. read_of z k) link.0 in
      record {
        lengths = q.1;
        there = λ v e. subst (λ z. IsValue f c (λ y. y ≡ x) low high z k v t) (sym is_name)
            (record { same = ap is (q.2 v e); type = refl; types = type; reads = inl (x, own, refl, link.0, refl) });
      }

  constant_there : (x : Cell) (k : CType) (low high : ℕ) (s : Cells) (t : Store) (word : ℕ) → IsLinked here c Homes Lives x (home.Constant word) → kinds.types (spot_of here x) ≡ k → IsNumber k (number_of k word) → Shown s t → ScalarThere x k low high s t
  constant_there x k low high s t word link type number h =
      let q = h.objects (spot_of here x) (home.Constant word) link.1 link.2 in
      let is_name : scalar c x k ≡ tree.number word k = ap (λ z. read_of z k) link.0 in
      let same_kind : (s (spot_of here x)).kind ≡ k = h.kinds (spot_of here x) word link.1 link.2 ∙ type in
      record {
        lengths = q.0;
        there = λ v e. subst (λ z. IsValue f c (λ y. y ≡ x) low high z k v t) (sym is_name)
            (record { same = ap is (ap (λ z. number_of z word) (sym same_kind) ∙ q.1 v e); type = refl; types = number; reads = tt });
      }

  pub scalar_there : (x : Cell) (k : CType) (low high : ℕ) (s : Cells) (t : Store) → o.Scalar x k → Shown s t → ScalarThere x k low high s t
  scalar_there x k low high s t is_scalar h = elim (world.scalars x k is_scalar) [
    | inl q ↦ variable_there x k low high s t q.0 q.1 q.2 h
    | inr q ↦ constant_there x k low high s t q.0 q.1 q.2 q.3 h
  ]

  -- What is written of an element is the value of what is read in its place.
  pub record ArrayThere (x : Cell) (k : CType) (st : State) (s : Cells) (t : Store) : Type 0 where
    pub number : ArrayId
    pub is_number : array c x st ≡ number
    pub stands : Homes (spot_of here x) (home.Array number)
    pub lives : Lives (spot_of here x)
    pub type : kind_at f.arrays number.0 ≡ k
    pub lengths : (s (spot_of here x)).lengths ≡ lengths_in (slice_get f.arrays number.0)
    pub there : (i : ℕ) (v : ℤ) → element_in (slice_get (s (spot_of here x)).elements i) ≡ Some v → t.elements number.0 i ≡ v

  -- what is noted is the array of the object
  named_array : (x : Cell) (h : Option Home) (a : ArrayId) (st : State) → IsArrayOf world.seen x h a → ((slot : Slot) → h ≡ Some (home.Local slot) → world.seen x ≡ Some a → slice_get st.slots slot.0 ≡ Some (Some a)) → array_in h st ≡ a
  named_array x (Some (home.Array b)) a st is_ there = is_
  named_array x (Some (home.Local slot)) a st is_ there = ap noted (there slot refl is_)
  named_array x (Some (home.Variable own)) a st is_ there = absurd is_
  named_array x (Some (home.Constant word)) a st is_ there = absurd is_
  named_array x None a st is_ there = absurd is_

  pub array_named : (x : Cell) (k : CType) (st : State) → AreNoted c world.seen st → (is_array : o.Array x k) → array c x st ≡ (world.arrays x k is_array).0
  array_named x k st there is_array = let a = world.arrays x k is_array in named_array x (home_of c x) a.0 st a.3 (λ slot e z. there x slot a.0 e z)

  pub array_there : (x : Cell) (k : CType) (st : State) (s : Cells) (t : Store) → AreNoted c world.seen st → o.Array x k → Shown s t → ArrayThere x k st s t
  array_there x k st s t there is_array h =
      let a = world.arrays x k is_array in
      let q = h.objects (spot_of here x) (home.Array a.0) a.1 a.2 in
      record { number = a.0; is_number = array_named x k st there is_array; stands = a.1; lives = a.2; type = a.4; lengths = q.1; there = q.2 }

  -- ---- variables that a value comes of

  pub comes_below : (R : Cell → Type 0) (low high i : ℕ) → base ≤ high → ComesOf c R low high i → i < high
  comes_below R low high i le h = elim h [
    | inl q ↦ (let b : q.1.0 < base = world.bounded q.0 q.1 q.3 in let e : q.1.0 ≡ i = q.4 in omega (arith, le, b, e))
    | inr q ↦ q.1
  ]

  pub comes_more : (R S : Cell → Type 0) (low low' high high' i : ℕ) → ((x : Cell) → R x → S x) → low' ≤ low → high ≤ high' → ComesOf c R low high i → ComesOf c S low' high' i
  comes_more R S low low' high high' i more le le' h = elim h [
    | inl q ↦ inl (q.0, q.1, more q.0 q.2, q.3, q.4)
    | inr q ↦ inr (le_trans le q.0, (let a = q.1 in omega (arith, a, le')))
  ]

  -- what a value comes of in a part is what it comes of in the whole
  pub value_more : (R S : Cell → Type 0) (low low' high high' : ℕ) (x : PureTree) (k : CType) (v : ℤ) (t : Store) → ((y : Cell) → R y → S y) → low' ≤ low → high ≤ high' → IsValue f c R low high x k v t → IsValue f c S low' high' x k v t
  value_more R S low low' high high' x k v t more le le' h = record {
    same = h.same;
    type = h.type;
    types = h.types;
    reads = read_more (ComesOf c R low high) (ComesOf c S low' high') (λ i q. comes_more R S low low' high high' i more le le' q) x h.reads;
  }

  -- ---- values that later operands leave

  -- Calls that come later change no variable that the value comes of, and what writes elements comes after they are read.
  pub record IsSafe (later : Effects) (x : PureTree) : Type 0 where
    pub file : AllRead (λ i. later.calls ≡ true → c.file_variables ≤ i) x
    pub plain : spoils later ≡ true → has_element x ≡ false

  pub record Saved (R : Cell → Type 0) (low : ℕ) (k : CType) (v : ℤ) (later : Effects) (s : Cells) (t : Store) (part : Part PureTree) : Type 0 where
    pub after : Store
    pub goes : Goes f part.pieces t after
    pub shown : Shown s after
    pub typed : IsTyped f after
    pub value : IsValue f c R low (length part.state.variables) part.value k v after
    pub safe : IsSafe later part.value

  calls_spoil : (later : Effects) → spoils later ≡ false → later.calls ≡ true → ⊥
  calls_spoil later e h = absurd (false≢true (sym e ∙ or_left later.calls later.changes h))

  module _ (unary_fits : UnaryFits) (binary_fits : BinaryFits) where
    save_by : (b : Bool) (R : Cell → Type 0) (low : ℕ) (x : PureTree) (k : CType) (v : ℤ) (later : Effects) (st : State) (s : Cells) (t : Store) → spoils later ≡ b → base ≤ low → low ≤ length st.variables → Shown s t → IsTyped f t
        → IsValue f c R low (length st.variables) x k v t → IsWithin (if b then saved c.file_variables later.calls x st else gives x st).state f
        → Saved R low k v later s t (if b then saved c.file_variables later.calls x st else gives x st)
    save_by false R low x k v later st s t e le le' shown typed h within = record {
      after = t;
      goes = goes_nothing f t;
      shown = shown;
      typed = typed;
      value = h;
      safe = record {
        file = read_any (λ i. later.calls ≡ true → c.file_variables ≤ i) (λ i z. absurd (calls_spoil later e z)) x;
        plain = λ z. absurd (false≢true (sym e ∙ z));
      };
    }
    save_by true R low x k v later st s t e le le' shown typed h within =
        let P = ComesOf c R low (length st.variables) in
        let part = saved c.file_variables later.calls x st in
        let more = (saved_later c.file_variables later.calls x st).more in
        let file = world.file in
        let q = saved_well unary_fits binary_fits f P c.file_variables later.calls x st t
        (record { reads = h.reads; below = λ i p. comes_below R low (length st.variables) i (le_trans le le') p; types = h.types; typed = typed; is_there = λ z. (v, h.same) }) within in
        record {
          after = q.after;
          goes = q.goes;
          shown = shown_apart f Homes Lives kinds (length st.variables) s t q.after (λ y own is_. (let b : own.0 < base = world.below y own is_ in omega (arith, b, le, le'))) q.variables q.elements shown;
          typed = q.typed;
          value = record {
            same = q.same ∙ h.same;
            type = q.kept_kind ∙ h.type;
            types = q.types;
            reads = read_more (IsKept P c.file_variables later.calls (length st.variables) (length part.state.variables)) (ComesOf c R low (length part.state.variables)) (λ i z. elim z [
              | inl p ↦ comes_more R R low low (length st.variables) (length part.state.variables) i (λ y r. r) (le_refl low) more p.0
              | inr p ↦ inr (le_trans le' p.0, p.1)
            ]) part.value q.reads;
          };
          safe = record {
            file = read_more (IsKept P c.file_variables later.calls (length st.variables) (length part.state.variables)) (λ i. later.calls ≡ true → c.file_variables ≤ i) (λ i z y. elim z [
              | inl p ↦ p.1 y
              | inr p ↦ (let a = p.0 in omega (arith, file, le, le', a))
            ]) part.value q.reads;
            plain = λ z. q.plain;
          };
        }

    -- An operand is saved where a later one has effects.
    pub save_well : (R : Cell → Type 0) (low : ℕ) (x : PureTree) (k : CType) (v : ℤ) (later : Effects) (st : State) (s : Cells) (t : Store) → base ≤ low → low ≤ length st.variables → Shown s t → IsTyped f t
        → IsValue f c R low (length st.variables) x k v t → IsWithin (save c.file_variables x later st).state f → Saved R low k v later s t (save c.file_variables x later st)
    save_well R low x k v later st s t le le' shown typed h within = save_by (spoils later) R low x k v later st s t refl le le' shown typed h within

  -- What a later part may set leaves the value of an earlier operand: it changes only scalars that may be changed and are not read, and its effects are among those that are known.
  pub part_permitted : (R C : Cell → Type 0) (eff : Effects) (low high : ℕ) (x : PureTree) (k : CType) (v : ℤ) (t : Store) (later : Effects) → base ≤ low → low ≤ high → IsValue f c R low high x k v t → IsSafe later x
      → ((y : Cell) → C y → (kd : CType) × o.Variable y kd) → ((y : Cell) → R y → C y → ⊥) → (eff.calls ≡ true → later.calls ≡ true) → (spoils eff ≡ true → spoils later ≡ true)
      → (own : (i : ℕ) → high ≤ i → Sets f (λ t1. value f.arrays x t1 ≡ is v) i) → Permits f (λ t1. value f.arrays x t1 ≡ is v) high own c C eff
  part_permitted R C eff low high x k v t later le le' h safe changed apart same_calls same_spoils own = record {
    cells = λ y d.
        let q = changed y d in
        let w = world.variables y q.0 q.1 in
        let b : w.0.0 < base = world.bounded y w.0 w.1.0 in
        let name : variable c y ≡ w.0 = ap variable_in w.1.0 in
        subst (λ z. Sets f (λ t1. value f.arrays x t1 ≡ is v) z.0) (sym name)
        (sets_value f x v w.0.0 (read_more (ComesOf c R low high) (λ j. w.0.0 ≢ j) (λ j z same. elim z [
          | inl p ↦ apart y (subst R (sym (world.names y p.0 w.0 p.1 w.1.0 p.3 (same ∙ sym p.4))) p.2) d
          | inr p ↦ (let a = p.0 in omega (arith, a, b, le, same))
        ]) x h.reads));
    calls = λ z i lt. sets_value f x v i (read_more (λ j. later.calls ≡ true → c.file_variables ≤ j) (λ j. i ≢ j) (λ j a same. (let b = a (same_calls z) in omega (arith, b, lt, same))) x safe.file);
    puts = λ z. puts_value f x v (safe.plain (same_spoils z));
  }

  pub sets_above : (R : Cell → Type 0) (low high : ℕ) (x : PureTree) (k : CType) (v : ℤ) (t : Store) → base ≤ high → IsValue f c R low high x k v t → (i : ℕ) → high ≤ i → Sets f (λ t1. value f.arrays x t1 ≡ is v) i
  sets_above R low high x k v t le h i le' =
      sets_value f x v i (read_more (ComesOf c R low high) (λ j. i ≢ j) (λ j z same. (let b = comes_below R low high j le z in omega (arith, b, le', same))) x h.reads)

  -- ---- several operands

  abbrev pub AreSafe : Effects → List PureTree → Type 0
  AreSafe later [] = Unit {0}
  AreSafe later (y ∷ ys) = IsSafe later y × AreSafe later ys

  pub safe_more : (a b : Effects) (x : PureTree) → IsSafe (either a b) x → IsSafe b x
  safe_more a b x h = record {
    file = read_more (λ i. (either a b).calls ≡ true → c.file_variables ≤ i) (λ i. b.calls ≡ true → c.file_variables ≤ i) (λ i z e. z (or_right a.calls b.calls e)) x h.file;
    plain = λ e. h.plain (spoils_or2 b.calls b.changes a.calls a.changes e);
  }

  -- The operands go on, and what is given behind those before has their values.
  pub record OperandsDone (xs : CoreTrees) (later : Effects) (low high : ℕ) (before given : List PureTree) (bs js : List ℤ) (s : Cells) (w : Way) (t : Store) : Type 0 where
    pub done : Evaluated f Homes Lives kinds s w t
    pub ys : List PureTree
    pub vs : List ℤ
    pub is_given : given ≡ before ++ ys
    pub is_values : js ≡ bs ++ vs
    pub values : AreValues f c (λ y. AnyReads y xs) low high (row ys) vs t
    pub safe : AreSafe later ys
