-- Assignments whose operands do the same do the same.
use Rattle.std.proofs.Common.{◌≡◌, ℕ, ◌≤◌, ◌<◌, ◌∙◌, inl, inr, sym, refl, ap, subst, ℤ, false, List, [], ◌∷◌, Option, Some, None, arith}
use Rattle.hls_base.specs.declared.place.Place.{Place}
use Rattle.hls_base.specs.declared.number.ArrayId.{ArrayId}
use Rattle.std.proofs.lemmas.Bool.Decides.{eqb_tells}
use Rattle.hls_base.specs.declared.refusal.UbRule.TheVariants as ub
use Rattle.c_token.specs.declared.ctype.CType.{CType}
use Rattle.c_value.specs.Values.{convert}
use Rattle.c_meaning.specs.Store.{element_place}
use Rattle.pieces.specs.declared.resolved.expression.Cell.{Cell}
use Rattle.pieces.specs.Trees as tree
use Rattle.pieces.specs.Trees.{PureTree, PureTrees, PieceTree, piece_row, row}
use Rattle.piece_making.specs.declared.frame.Home.{Home}
use Rattle.piece_making.specs.declared.frame.Home.TheVariants as home
use Rattle.piece_making.specs.Making.{State, emit}
use Rattle.piece_making.specs.Calls.{Call, variable, variable_in, array, array_in}
use Rattle.piece_making.specs.Assigning.{store_at}
use Rattle.hls_base.specs.Steps.{goes}
use Rattle.hls_base.specs.Valued.{is, valued}
use Rattle.hls_base.specs.Same.{Same}
use Rattle.c_meaning.specs.CoreRuns.Cells.{Spot, Cells, Here, spot_of}
use Rattle.c_meaning.specs.CoreRuns.Expressions as ce
use Rattle.c_meaning.specs.PieceRuns.Values.{Store, element_number, value, values, with_variable, with_element}
use Rattle.c_meaning.specs.PieceRuns.Pieces.{Frame, Way, on, kind_at, put_at}
use Rattle.expand_runs.specs.Reading.{IsNumber, IsTyped}
use Rattle.expand_runs.specs.Showing.{Known, IsShown}
use Rattle.expand_runs.specs.Sound.{Objects}
use Rattle.expand_runs.specs.Evaluating.{Evaluated, IsLinked}
use Rattle.expand_runs.specs.Worlds.{IsWorld, AreNoted}
use Rattle.expand_runs.proofs.Sames.{goes_same, fails_any, same_as}
use Rattle.expand_runs.proofs.Rows.{run_of}
use Rattle.expand_runs.proofs.Going.{goes_set}
use Rattle.expand_runs.proofs.Typing.{number_other, typed_set, converted_number}
use Rattle.expand_runs.proofs.Showing.{shown_set, shown_put, row_here, row_beside, row_other}
use Rattle.expand_runs.proofs.Rows.{one_piece}
use Rattle.expand_runs.proofs.Operands.{array_there}

module _ (f : Frame) (k : ℕ) (here : Here) (c : Call) (o : Objects) (Homes : Spot → Home → Type 0) (Lives : Spot → Type 0) (kinds : Known) (base : ℕ) (world : IsWorld f here c o Homes Lives kinds base) where
  -- What an assignment leaves: the number is stored in the type of the target, and only what stands for the target has changed.
  pub record Stored (kd : CType) (r : ℤ) (t : Store) (v : ℤ) (s : Cells) (w : Way) (t1 : Store) : Type 0 where
    pub done : Evaluated f Homes Lives kinds s w t1
    pub number : v ≡ convert kd r
    pub kept : (i : ℕ) → base ≤ i → t1.variables i ≡ t.variables i

  -- ---- scalars

  -- A scalar is set where the core's is written.
  pub scalar_stored : (cell : Cell) (kd : CType) (at place : Place) (y : PureTree) (st : State) (s : Cells) (t : Store) (r : ℤ) (n : ℕ) → n ≤ k → o.Variable cell kd → IsShown f Homes Lives kinds s t → IsTyped f t → value f.arrays y t ≡ is r
      → Same false k (Stored kd r t) (ce.store (spot_of here cell) [] kd r place s n) (run_of f (store_at c cell at tree.none y st).pieces t n)
  unfolding emit
  scalar_stored cell kd at place y st s t r n le is_variable shown typed e =
      let w = world.variables cell kd is_variable in
      let own = w.0 in
      let b : own.0 < base = world.bounded cell own w.1.0 in
      let name : variable c cell ≡ own = ap variable_in w.1.0 in
      let q = shown.objects (spot_of here cell) (home.Variable own) w.1.1 w.1.2 in
      let u = convert kd r in
      let t1 = with_variable own.0 u t in
      let goes_there : run_of f (tree.set (variable c cell) y ∷ []) t n ≡ goes on t1 n =
      ap (λ z. run_of f (tree.set z y ∷ []) t n) name ∙ goes_set f own.0 y t r e n ∙ ap (λ z. goes on (with_variable own.0 (convert z r) t) n) w.2 in
      subst (λ ls. Same false k (Stored kd r t) (ce.store_place (element_place ls []) (spot_of here cell) kd r place s n) (run_of f (tree.set (variable c cell) y ∷ []) t n)) (sym q.1)
      (same_as k (Stored kd r t) (goes u (ce.written (spot_of here cell) 0 u s) n) (goes on t1 n) (run_of f (tree.set (variable c cell) y ∷ []) t n) goes_there
      (goes_same k (Stored kd r t) u (ce.written (spot_of here cell) 0 u s) on t1 n le (record {
        done = record {
          on_ = refl;
          shown = shown_set f Homes Lives kinds s t (spot_of here cell) own u world.apart w.1.1 w.1.2 shown;
          typed = typed_set f t own.0 u typed (subst (λ z. IsNumber z u) (sym w.2) (converted_number kd r));
        };
        number = refl;
        kept = λ i le_i. number_other t.variables own.0 i u (λ z. omega (arith, b, le_i, z));
      })))

  -- ---- elements

  typed_put : (t : Store) (a i : ℕ) (v : ℤ) → IsTyped f t → IsNumber (kind_at f.arrays a) v → IsTyped f (with_element a i v t)
  typed_put t a i v h number = record { variables = h.variables; elements = λ d j. element_typed d j }
    where
      element_typed : (d j : ℕ) → IsNumber (kind_at f.arrays d) ((with_element a i v t).elements d j)
      element_typed d j = elim (eqb_tells a d) [
        | inl e ↦ elim (eqb_tells i j) [
          | inl g ↦ subst (λ z. IsNumber (kind_at f.arrays d) z) (sym (subst (λ z. (with_element a i v t).elements a z ≡ v) g.1 (row_here t.elements a i v) ∙ refl) ∙ ap (λ z. (with_element a i v t).elements z j) e.1) (subst (λ z. IsNumber (kind_at f.arrays z) v) e.1 number)
          | inr g ↦ subst (λ z. IsNumber (kind_at f.arrays d) z) (sym (row_beside t.elements a i j v g.1 ∙ ap (λ z. t.elements z j) e.1) ∙ ap (λ z. (with_element a i v t).elements z j) e.1) (h.elements d j)
        ]
        | inr e ↦ subst (λ z. IsNumber (kind_at f.arrays d) z) (sym (row_other t.elements a i d j v e.1)) (h.elements d j)
      ]

  put_run : (a : ArrayId) (xs : PureTrees) (y : PureTree) (at : Place) (t : Store) (is_ : List ℤ) (r : ℤ) (n : ℕ) → values f.arrays xs t ≡ is is_ → value f.arrays y t ≡ is r → run_of f (tree.put a xs y at ∷ []) t n ≡ put_at f a.0 (element_number f.arrays a.0 is_) r at t n
  put_run a xs y at t is_ r n e g =
      one_piece f (tree.put a xs y at) t n
      ∙ ap (λ z. valued z (λ js t1. valued (value f.arrays y t1) (λ x t2. put_at f a.0 (element_number f.arrays a.0 js) x at t2) t1) t n) e
      ∙ ap (λ z. valued z (λ x t2. put_at f a.0 (element_number f.arrays a.0 is_) x at t2) t n) g

  element_written : (cell : Cell) (kd : CType) (a : ArrayId) (place at : Place) (i : Option ℕ) (s : Cells) (t : Store) (r : ℤ) (n : ℕ) → n ≤ k → Homes (spot_of here cell) (home.Array a) → Lives (spot_of here cell) → kind_at f.arrays a.0 ≡ kd → IsShown f Homes Lives kinds s t → IsTyped f t
      → Same false k (Stored kd r t) (ce.store_place i (spot_of here cell) kd r place s n) (put_at f a.0 i r at t n)
  element_written cell kd a place at None s t r n le stands lives type shown typed = fails_any {S = Cells} {A = ℤ} k (Stored kd r t) ub.Index place (put_at f a.0 None r at t n)
  element_written cell kd a place at (Some i) s t r n le stands lives type shown typed =
      let u = convert kd r in
      subst (λ z. Same false k (Stored kd r t) (goes u (ce.written (spot_of here cell) i u s) n) (goes on (with_element a.0 i (convert z r) t) n)) (sym type)
      (goes_same k (Stored kd r t) u (ce.written (spot_of here cell) i u s) on (with_element a.0 i u t) n le (record {
        done = record {
          on_ = refl;
          shown = shown_put f Homes Lives kinds s t (spot_of here cell) a i u world.apart stands lives shown;
          typed = typed_put t a.0 i u typed (subst (λ z. IsNumber z u) (sym type) (converted_number kd r));
        };
        number = refl;
        kept = λ j le_j. refl;
      }))

  -- An element is put where the core's is written.
  pub element_stored : (cell : Cell) (kd : CType) (at place : Place) (first : PureTree) (rest : PureTrees) (y : PureTree) (st : State) (is_ : List ℤ) (s : Cells) (t : Store) (r : ℤ) (n : ℕ) → n ≤ k → AreNoted c world.seen st → o.Array cell kd → IsShown f Homes Lives kinds s t → IsTyped f t
      → values f.arrays (tree.more first rest) t ≡ is is_ → value f.arrays y t ≡ is r
      → Same false k (Stored kd r t) (ce.store (spot_of here cell) is_ kd r place s n) (run_of f (store_at c cell at (tree.more first rest) y st).pieces t n)
  unfolding emit
  element_stored cell kd at place first rest y st is_ s t r n le there is_array shown typed e g =
      let w = array_there f here c o Homes Lives kinds base world cell kd st s t there is_array shown in
      let a = w.number in
      same_as k (Stored kd r t) (ce.store (spot_of here cell) is_ kd r place s n) (put_at f a.0 (element_number f.arrays a.0 is_) r at t n) (run_of f (tree.put (array c cell st) (tree.more first rest) y at ∷ []) t n)
      (ap (λ z. run_of f (tree.put z (tree.more first rest) y at ∷ []) t n) w.is_number ∙ put_run a (tree.more first rest) y at t is_ r n e g)
      (subst (λ ls. Same false k (Stored kd r t) (ce.store_place (element_place ls is_) (spot_of here cell) kd r place s n) (put_at f a.0 (element_number f.arrays a.0 is_) r at t n)) (sym w.lengths)
      (element_written cell kd a place at (element_number f.arrays a.0 is_) s t r n le w.stands w.lives w.type shown typed))
