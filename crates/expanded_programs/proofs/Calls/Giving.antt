-- What is given for parameters, in both stores.
use Rattle.std.proofs.Common.{◌≡◌, ◌≢◌, ℕ, zero, suc, ◌+◌, ◌<◌, ◌≤◌, ◌∙◌, sym, refl, ap, subst, ℤ, List, [], ◌∷◌, ◌++◌, length, slice_get, Some, arith}
use Rattle.std.proofs.lemmas.List.{length-append}
use Rattle.std.proofs.lemmas.Option.{none-some, same_Some}
use Rattle.hls_base.specs.declared.number.VarId.{VarId}
use Rattle.hls_base.specs.declared.number.ArrayId.{ArrayId}
use Rattle.c_value.specs.Values.{convert}
use Rattle.c_meaning.specs.Store.{scalar}
use Rattle.pieces.specs.Resolved.Core.{CoreObjectTree}
use Rattle.pieces.specs.Trees as tree
use Rattle.pieces.specs.Trees.{PureTree, PieceTree}
use Rattle.piece_making.specs.declared.frame.Home.{Home}
use Rattle.piece_making.specs.declared.frame.Home.TheVariants as home
use Rattle.piece_making.specs.Making.{State, then_, emit, fresh, variable_number}
use Rattle.hls_base.specs.Valued.{is}
use Rattle.c_meaning.specs.CoreRuns.Cells.{Spot, spot, Cells, Given, number_given, array_given, put}
use Rattle.c_meaning.specs.CoreRuns.Runs as rs
use Rattle.c_meaning.specs.PieceRuns.Values.{Store, value, with_variable}
use Rattle.c_meaning.specs.PieceRuns.Pieces.{Frame, type_of}
use Rattle.c_expand.specs.Expressions as e
use Rattle.c_expand.specs.Expansion.{parameter, parameters}
use Rattle.expand_runs.specs.Reading.{AllRead, IsTyped, variable_type}
use Rattle.expand_runs.specs.Growing.{Begins, IsWithin}
use Rattle.expand_runs.proofs.Growing.{begins_more, last_one, within_before}
use Rattle.expand_runs.proofs.Going.{Goes, goes_nothing, goes_behind, goes_set}
use Rattle.expand_runs.proofs.Reading.{value_agrees}
use Rattle.expand_runs.proofs.Showing.{put_here, put_other}
use Rattle.expand_runs.proofs.Typing.{converted_number, number_here, number_other, typed_set, same_value}
use Rattle.expanded_programs.proofs.Calls.Homes.{parameters_later}

abbrev tree_of : PureTree → e.Given → PureTree
tree_of d (e.value_given z) = z
tree_of d (e.array_given a) = d

same_given : (x y : PureTree) → Some (e.value_given x) ≡ Some (e.value_given y) → x ≡ y
same_given x y h = ap (tree_of x) (same_Some (e.value_given x) (e.value_given y) h)

abbrev IsArrayGiven : e.Given → Type 0
IsArrayGiven (e.value_given z) = ⊥
IsArrayGiven (e.array_given b) = Unit {0}

no_value : (a : ArrayId) (y : PureTree) → e.array_given a ≡ e.value_given y → ⊥
no_value a y h = subst IsArrayGiven h tt

-- ---- pieces

-- earlier variables and all elements hold the same
pub record Agrees (n : ℕ) (t t' : Store) : Type 0 where
  pub variables : (i : ℕ) → i < n → t'.variables i ≡ t.variables i
  pub elements : (a i : ℕ) → t'.elements a i ≡ t.elements a i

-- each number that is given has a value, which comes of earlier variables
abbrev pub AreReady : Frame → ℕ → List e.Given → Store → Type 0
AreReady f low [] t = Unit {0}
AreReady f low (e.value_given y ∷ given) t = ((v : ℤ) × (value f.arrays y t ≡ is v) × AllRead (λ i. i < low) y) × AreReady f low given t
AreReady f low (e.array_given a ∷ given) t = AreReady f low given t

pub parameters_begin : (os : List CoreObjectTree) (given : List e.Given) (before : List Home) (s : State) → Begins before (parameters os given before s).value
unfolding then_
parameters_begin [] given before s i x h = h
parameters_begin (o ∷ os) [] before s i x h = h
parameters_begin (o ∷ os) (g ∷ given) before s i x h =
    let p = parameter o g s in
    parameters_begin os given (before ++ p.value ∷ []) p.state i x (begins_more before (p.value ∷ []) i x h)

module _ (f : Frame) where
  -- The variables of the parameters are set, and nothing else.
  pub record AreSet (os : List CoreObjectTree) (given : List e.Given) (before : List Home) (s : State) (t0 t : Store) : Type 0 where
    pub after : Store
    pub goes : Goes f (parameters os given before s).pieces t after
    pub agrees : Agrees (length s.variables) t after
    pub typed : IsTyped f after
    pub held : (j : ℕ) (o : CoreObjectTree) (y : PureTree) (v : ℤ) → slice_get os j ≡ Some o → slice_get given j ≡ Some (e.value_given y) → value f.arrays y t0 ≡ is v
        → (own : VarId) × (slice_get (parameters os given before s).value (length before + j) ≡ Some (home.Variable own)) × (after.variables own.0 ≡ convert o.kind v)

  pub parameters_set : (os : List CoreObjectTree) (given : List e.Given) (before : List Home) (s : State) (low : ℕ) (t0 t : Store) → low ≤ length s.variables → AreReady f low given t0 → Agrees low t0 t → IsTyped f t → IsWithin (parameters os given before s).state f → AreSet os given before s t0 t
  unfolding then_ emit fresh
  parameters_set [] given before s low t0 t le ready agrees typed within =
      record { after = t; goes = goes_nothing f t; agrees = record { variables = λ i lt. refl; elements = λ a i. refl }; typed = typed; held = λ j o y v e1 e2 e3. absurd (none-some o e1) }
  parameters_set (o ∷ os) [] before s low t0 t le ready agrees typed within =
      record { after = t; goes = goes_nothing f t; agrees = record { variables = λ i lt. refl; elements = λ a i. refl }; typed = typed; held = λ j o1 y v e1 e2 e3. absurd (none-some _ e2) }
  parameters_set (o ∷ os) (e.value_given x ∷ given) before s low t0 t le ready agrees typed within =
      let m = length s.variables in
      let own = variable_number m in
      let s1 = record s { variables = s.variables ++ o.kind ∷ []; made = s.made + 1 } in
      let before1 = before ++ home.Variable own ∷ [] in
      let longer = length-append s.variables (o.kind ∷ []) in
      let later = parameters_later f os given before1 s1 in
      let within1 = within_before s1 (parameters os given before1 s1).state f later within in
      let type : variable_type f m ≡ o.kind = ap type_of (within1.variables m o.kind (last_one s.variables o.kind)) in
      let w = ready.0.0 in
      let there : value f.arrays x t ≡ is w = value_agrees f.arrays (λ i. i < low) t0 t agrees.variables x ready.0.2 (λ z. agrees.elements) ∙ ready.0.1 in
      let u = convert (variable_type f m) w in
      let t1 = with_variable m u t in
      let q = parameters_set os given before1 s1 low t0 t1 (omega (arith, le, longer)) ready.1
      (record { variables = λ i lt. number_other t.variables m i u (λ z. omega (arith, lt, le, z)) ∙ agrees.variables i lt; elements = agrees.elements })
      (typed_set f t m u typed (converted_number (variable_type f m) w)) within in
      record {
        after = q.after;
        goes = goes_behind f (tree.set own x ∷ []) (parameters os given before1 s1).pieces t t1 q.after (goes_set f m x t w there) q.goes;
        agrees = record {
          variables = λ i lt. q.agrees.variables i (omega (arith, lt, longer)) ∙ number_other t.variables m i u (λ z. omega (arith, lt, z));
          elements = q.agrees.elements;
        };
        typed = q.typed;
        held = held_at q u type w there q.agrees;
      }
    where
      held_at : (q : AreSet os given (before ++ home.Variable (variable_number (length s.variables)) ∷ []) (record s { variables = s.variables ++ o.kind ∷ []; made = s.made + 1 }) t0 (with_variable (length s.variables) (convert (variable_type f (length s.variables)) ready.0.0) t))
          → (u : ℤ) → variable_type f (length s.variables) ≡ o.kind → (w : ℤ) → value f.arrays x t ≡ is w → Agrees (length (s.variables ++ o.kind ∷ [])) (with_variable (length s.variables) (convert (variable_type f (length s.variables)) ready.0.0) t) q.after
          → (j : ℕ) (o1 : CoreObjectTree) (y : PureTree) (v : ℤ) → slice_get (o ∷ os) j ≡ Some o1 → slice_get (e.value_given x ∷ given) j ≡ Some (e.value_given y) → value f.arrays y t0 ≡ is v
          → (own : VarId) × (slice_get (parameters (o ∷ os) (e.value_given x ∷ given) before s).value (length before + j) ≡ Some (home.Variable own)) × (q.after.variables own.0 ≡ convert o1.kind v)
      held_at q u type w there agrees1 zero o1 y v e1 e2 e3 =
          let m = length s.variables in
          let own = variable_number m in
          let before1 = before ++ home.Variable own ∷ [] in
          let s1 = record s { variables = s.variables ++ o.kind ∷ []; made = s.made + 1 } in
          let longer = length-append s.variables (o.kind ∷ []) in
          let same_o : o ≡ o1 = same_Some o o1 e1 in
          let same_v : ready.0.0 ≡ v = same_value ready.0.0 v (sym ready.0.1 ∙ ap (λ z. value f.arrays z t0) (same_given x y e2) ∙ e3) in (
            own,
            ap (slice_get (parameters os given before1 s1).value) (let z : length before + 0 ≡ length before = omega arith in z) ∙ parameters_begin os given before1 s1 (length before) (home.Variable own) (last_one before (home.Variable own)),
            agrees1.variables m (omega (arith, longer)) ∙ number_here t.variables m (convert (variable_type f m) ready.0.0) ∙ ap (λ k. convert k ready.0.0) type ∙ ap (λ (z : CoreObjectTree). convert z.kind ready.0.0) same_o ∙ ap (convert o1.kind) same_v,
          )
      held_at q u type w there agrees1 (suc j) o1 y v e1 e2 e3 =
          let own1 = home.Variable (variable_number (length s.variables)) in
          let longer = length-append before (own1 ∷ []) in
          let r = q.held j o1 y v e1 e2 e3 in
          (r.0, subst (λ z. slice_get (parameters (o ∷ os) (e.value_given x ∷ given) before s).value z ≡ Some (home.Variable r.0)) (let z : length (before ++ own1 ∷ []) + j ≡ length before + suc j = omega (arith, longer) in z) r.1, r.2)
  parameters_set (o ∷ os) (e.array_given a ∷ given) before s low t0 t le ready agrees typed within =
      let before1 = before ++ home.Array a ∷ [] in
      let q = parameters_set os given before1 s low t0 t le ready agrees typed within in
      record { after = q.after; goes = q.goes; agrees = q.agrees; typed = q.typed; held = held_at q }
    where
      held_at : (q : AreSet os given (before ++ home.Array a ∷ []) s t0 t) → (j : ℕ) (o1 : CoreObjectTree) (y : PureTree) (v : ℤ) → slice_get (o ∷ os) j ≡ Some o1 → slice_get (e.array_given a ∷ given) j ≡ Some (e.value_given y) → value f.arrays y t0 ≡ is v
          → (own : VarId) × (slice_get (parameters (o ∷ os) (e.array_given a ∷ given) before s).value (length before + j) ≡ Some (home.Variable own)) × (q.after.variables own.0 ≡ convert o1.kind v)
      held_at q zero o1 y v e1 e2 e3 = absurd (no_value a y (same_Some (e.array_given a) (e.value_given y) e2))
      held_at q (suc j) o1 y v e1 e2 e3 =
          let longer = length-append before (home.Array a ∷ []) in
          let r = q.held j o1 y v e1 e2 e3 in
          (r.0, subst (λ z. slice_get (parameters (o ∷ os) (e.array_given a ∷ given) before s).value z ≡ Some (home.Variable r.0)) (let z : length (before ++ home.Array a ∷ []) + j ≡ length before + suc j = omega (arith, longer) in z) r.1, r.2)

-- ---- the core's store

pub record AreStored (frame i : ℕ) (os : List CoreObjectTree) (gs : List Given) (s : Cells) : Type 0 where
  pub elsewhere : (x : Spot) → x.frame ≢ frame → rs.parameters frame i os gs s x ≡ s x
  pub earlier : (x : Spot) → x.number < i → rs.parameters frame i os gs s x ≡ s x
  pub held : (j : ℕ) (o : CoreObjectTree) (v : ℤ) → slice_get os j ≡ Some o → slice_get gs j ≡ Some (number_given v) → rs.parameters frame i os gs s (spot frame (i + j)) ≡ scalar o.kind (convert o.kind v)
  pub given_arrays : (j : ℕ) (x : Spot) → slice_get gs j ≡ Some (array_given x) → rs.parameters frame i os gs s (spot frame (i + j)) ≡ s (spot frame (i + j))

frame_differs : (frame i : ℕ) (x : Spot) → x.frame ≢ frame → spot frame i ≢ x
frame_differs frame i x ne h = ne (sym (ap (λ (z : Spot). z.frame) h))

number_differs : (frame i : ℕ) (x : Spot) → x.number < i → spot frame i ≢ x
number_differs frame i x lt h = (let q = ap (λ (z : Spot). z.number) h in omega (arith, lt, q))

abbrev number_of_given : ℤ → Given → ℤ
number_of_given d (number_given v) = v
number_of_given d (array_given x) = d

abbrev IsNumberGiven : Given → Type 0
IsNumberGiven (number_given v) = Unit {0}
IsNumberGiven (array_given x) = ⊥

pub parameters_stored : (frame i : ℕ) (os : List CoreObjectTree) (gs : List Given) (s : Cells) → AreStored frame i os gs s
parameters_stored frame i [] gs s = record { elsewhere = λ x ne. refl; earlier = λ x lt. refl; held = λ j o v e1 e2. absurd (none-some o e1); given_arrays = λ j x e1. refl }
parameters_stored frame i (o ∷ os) [] s = record { elsewhere = λ x ne. refl; earlier = λ x lt. refl; held = λ j o1 v e1 e2. absurd (none-some _ e2); given_arrays = λ j x e1. refl }
parameters_stored frame i (o ∷ os) (number_given w ∷ gs) s =
    let u = scalar o.kind (convert o.kind w) in
    let s1 = put s (spot frame i) u in
    let q = parameters_stored frame (i + 1) os gs s1 in
    record {
      elsewhere = λ x ne. q.elsewhere x ne ∙ put_other s (spot frame i) x u (frame_differs frame i x ne);
      earlier = λ x lt. q.earlier x (omega (arith, lt)) ∙ put_other s (spot frame i) x u (number_differs frame i x lt);
      held = held_at q;
      given_arrays = arrays_at q;
    }
  where
    held_at : (q : AreStored frame (i + 1) os gs (put s (spot frame i) (scalar o.kind (convert o.kind w)))) (j : ℕ) (o1 : CoreObjectTree) (v : ℤ) → slice_get (o ∷ os) j ≡ Some o1 → slice_get (number_given w ∷ gs) j ≡ Some (number_given v)
        → rs.parameters frame i (o ∷ os) (number_given w ∷ gs) s (spot frame (i + j)) ≡ scalar o1.kind (convert o1.kind v)
    held_at q zero o1 v e1 e2 =
        let u = scalar o.kind (convert o.kind w) in
        let same_o : o ≡ o1 = same_Some o o1 e1 in
        let same_v : w ≡ v = ap (number_of_given w) (same_Some (number_given w) (number_given v) e2) in
        ap (λ z. rs.parameters frame (i + 1) os gs (put s (spot frame i) u) (spot frame z)) (let z : i + 0 ≡ i = omega arith in z) ∙ q.earlier (spot frame i) (omega arith) ∙ put_here s (spot frame i) u
        ∙ ap (λ (z : CoreObjectTree). scalar z.kind (convert z.kind w)) same_o ∙ ap (λ z. scalar o1.kind (convert o1.kind z)) same_v
    held_at q (suc j) o1 v e1 e2 =
        ap (λ z. rs.parameters frame (i + 1) os gs (put s (spot frame i) (scalar o.kind (convert o.kind w))) (spot frame z)) (let z : i + suc j ≡ i + 1 + j = omega arith in z) ∙ q.held j o1 v e1 e2

    arrays_at : (q : AreStored frame (i + 1) os gs (put s (spot frame i) (scalar o.kind (convert o.kind w)))) (j : ℕ) (x : Spot) → slice_get (number_given w ∷ gs) j ≡ Some (array_given x)
        → rs.parameters frame i (o ∷ os) (number_given w ∷ gs) s (spot frame (i + j)) ≡ s (spot frame (i + j))
    arrays_at q zero x e1 = absurd (subst IsNumberGiven (same_Some (number_given w) (array_given x) e1) tt)
    arrays_at q (suc j) x e1 =
        let u = scalar o.kind (convert o.kind w) in
        let z : i + suc j ≡ i + 1 + j = omega arith in
        subst (λ n. rs.parameters frame (i + 1) os gs (put s (spot frame i) u) (spot frame n) ≡ s (spot frame n)) (sym z)
        (q.given_arrays j x e1 ∙ put_other s (spot frame i) (spot frame (i + 1 + j)) u (λ h. (let n = ap (λ (y : Spot). y.number) h in omega (arith, n))))
parameters_stored frame i (o ∷ os) (array_given a ∷ gs) s =
    let q = parameters_stored frame (i + 1) os gs s in
    record {
      elsewhere = λ x ne. q.elsewhere x ne;
      earlier = λ x lt. q.earlier x (omega (arith, lt));
      held = held_at q;
      given_arrays = arrays_at q;
    }
  where
    held_at : (q : AreStored frame (i + 1) os gs s) (j : ℕ) (o1 : CoreObjectTree) (v : ℤ) → slice_get (o ∷ os) j ≡ Some o1 → slice_get (array_given a ∷ gs) j ≡ Some (number_given v) → rs.parameters frame i (o ∷ os) (array_given a ∷ gs) s (spot frame (i + j)) ≡ scalar o1.kind (convert o1.kind v)
    held_at q zero o1 v e1 e2 = absurd (subst IsNumberGiven (sym (same_Some (array_given a) (number_given v) e2)) tt)
    held_at q (suc j) o1 v e1 e2 = ap (λ z. rs.parameters frame (i + 1) os gs s (spot frame z)) (let z : i + suc j ≡ i + 1 + j = omega arith in z) ∙ q.held j o1 v e1 e2

    arrays_at : (q : AreStored frame (i + 1) os gs s) (j : ℕ) (x : Spot) → slice_get (array_given a ∷ gs) j ≡ Some (array_given x) → rs.parameters frame i (o ∷ os) (array_given a ∷ gs) s (spot frame (i + j)) ≡ s (spot frame (i + j))
    arrays_at q zero x e1 = ap (λ z. rs.parameters frame (i + 1) os gs s (spot frame z)) (let z : i + 0 ≡ i = omega arith in z) ∙ q.earlier (spot frame i) (omega arith) ∙ ap (λ z. s (spot frame z)) (let z : i ≡ i + 0 = omega arith in z)
    arrays_at q (suc j) x e1 =
        let z : i + suc j ≡ i + 1 + j = omega arith in
        subst (λ n. rs.parameters frame (i + 1) os gs s (spot frame n) ≡ s (spot frame n)) (sym z) (q.given_arrays j x e1)
