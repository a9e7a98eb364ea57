-- Declarations and returns do what their pieces do.
use Rattle.std.proofs.Common.{◌≡◌, ◌≢◌, ℕ, ◌≤◌, ◌<◌, inl, inr, ◌∙◌, sym, refl, ap, subst, ℤ, pos, Bool, true, false, List, [], ◌∷◌, ◌++◌, length, slice_get, Option, Some, None, le_refl, le_trans, arith, replicate}
use Rattle.std.specs.Prelude.{slice_set, ◌+◌, ◌^◌}
use Rattle.std.proofs.lemmas.List.{length-append}
use Rattle.std.proofs.lemmas.Option.{same_Some, none-some}
use Rattle.hls_base.specs.declared.number.ArrayId.{ArrayId}
use Rattle.hls_base.specs.declared.number.VarId.{VarId}
use Rattle.c_meaning.specs.Store.{Object, element_in, forgotten}
use Rattle.c_value.specs.Values.{convert, int_type}
use Rattle.pieces.specs.Resolved.Core as core
use Rattle.pieces.specs.Resolved.Core.{CoreTree, CoreObjectTree, CoreInitTree}
use Rattle.piece_making.specs.declared.frame.Home.{Home}
use Rattle.piece_making.specs.declared.frame.Home.TheVariants as home
use Rattle.piece_making.specs.declared.work.Slot.{Slot}
use Rattle.piece_making.specs.Making.{State, then_, emit, declared, note_array, add_array, array_number}
use Rattle.piece_making.specs.Calls.{Call, variable}
use Rattle.pieces.specs.Trees as tree
use Rattle.pieces.specs.Trees.{PureTree, PieceTree, piece_row}
use Rattle.hls_base.specs.Steps.{goes}
use Rattle.hls_base.specs.Same.{Same}
use Rattle.c_meaning.specs.CoreRuns.Cells.{Spot, Cells, Here, put}
use Rattle.c_meaning.specs.CoreRuns.Expressions as ce
use Rattle.c_meaning.specs.CoreRuns.Expressions.{CoreCalls}
use Rattle.c_meaning.specs.CoreRuns.Statements as ks
use Rattle.c_meaning.specs.PieceRuns.Values.{Store, with_variable, with_element}
use Rattle.c_meaning.specs.PieceRuns.Pieces.{Frame, Way, on, kind_at, kind_in}
use Rattle.c_meaning.specs.PieceRuns.Pieces as pm
use Rattle.c_meaning.specs.PieceRuns.Values.{lengths_in}
use Rattle.c_expand.specs.Expressions.{Callee, expression}
use Rattle.c_expand.specs.Statements.{declare, declared_as, scalar_declared, filled, initialised, subscripts_at}
use Rattle.expand_runs.specs.Showing.{Known, Stands, IsWhole}
use Rattle.expanded_programs.specs.Statements.Scopes.{Setting, Reach, IsScalar, IsArray, reach, objects_in, InitSound, ItemsSound, StmtSound}
use Rattle.expanded_programs.specs.Statements.Frames.{IsFrame, IsScene, Relates, HomesIn, LivesIn, with_seen, made_for, local_home, OwnHome}
use Rattle.expand_runs.proofs.Rows.{run_of}
use Rattle.expand_runs.proofs.Evaluating.{on_same, goes_first}
use Rattle.expand_runs.proofs.Sames.{goes_same, same_as}
use Rattle.expand_runs.proofs.Showing.{put_here, put_other, spot_tells, shown_set, shown_put}
use Rattle.expand_runs.proofs.Growing.{begins_more, last_one, slots_there, slots_here, slots_length, within_before, within_grown}
use Rattle.expand_runs.proofs.Going.{Goes, goes_set}
use Rattle.expand_runs.proofs.Typing.{typed_set, converted_number}
use Rattle.expanded_programs.proofs.StatementsLemmas.Scenes.{apart_of, seen_cell, IsVariableHome, world_of}
use Rattle.expanded_programs.proofs.StatementsLemmas.Actions.{HasValue, evaluated, expression_later}
use Rattle.expanded_programs.proofs.StatementsLemmas.Moving.{nothing_in, none_some, relates_reached, scene_later, scene_grown, with_here, with_other}
use Rattle.expanded_programs.proofs.StatementsLemmas.StatementParts.{scene_made as made_anew}
use Rattle.expand_runs.specs.Growing.{IsGrown, IsWithin}
use Rattle.expand_runs.specs.Reading.{BinaryFits, UnaryFits, IsNumber, variable_type}
use Rattle.piece_making.specs.Objects.{array_like}
use Rattle.hls_base.specs.ArrayAddress.{element_count}
use Rattle.std.proofs.lemmas.Bool.Decides.{eqb_tells}
use Rattle.expand_runs.specs.Calling.{CallsSame}
use Rattle.expand_runs.proofs.FineExpressions.{CalleesKeep, any_fit}
use Rattle.expand_runs.proofs.Fine.{Sets}
use Rattle.expand_runs.specs.Fitting.{Anything, CallsFit}
use Rattle.expand_runs.specs.Sound.{Changes}
use Rattle.pieces.specs.declared.resolved.expression.Cell.{Cell}
use Rattle.c_token.specs.declared.ctype.CType.{CType}
use Rattle.expanded_programs.specs.Statements.Each.{EachItem, InInit}
use Rattle.expanded_programs.proofs.StatementsLemmas.FineStatements.{filled_keeps, initialised_keeps}
use Rattle.expanded_programs.proofs.StatementsLemmas.Elements.{zero_converted, goes_put, typed_element}
use Rattle.c_meaning.specs.CoreRuns.Runs.{is_array}
use Rattle.expand_runs.proofs.PartRuns.{any_later}

-- what stands for an object stands for it still when it is unwritten again
forgotten_stands : (f : Frame) (h : Home) (o : Object) (t : Store) → Stands f h o t → Stands f h (forgotten o) t
forgotten_stands f (home.Variable own) o t h = (h.0, h.1, λ v e. absurd (none_some (element_in (slice_get (replicate (element_count o.lengths) None) 0)) v (nothing_in (element_count o.lengths) 0) e))
forgotten_stands f (home.Array a) o t h = (h.0, h.1, λ i v e. absurd (none_some (element_in (slice_get (replicate (element_count o.lengths) None) i)) v (nothing_in (element_count o.lengths) i) e))
forgotten_stands f (home.Constant word) o t h = (h.0, λ v e. absurd (none_some (element_in (slice_get (replicate (element_count o.lengths) None) 0)) v (nothing_in (element_count o.lengths) 0) e))
forgotten_stands f (home.Local slot) o t h = λ i. nothing_in (element_count o.lengths) i

abbrev slot_of_home : Slot → Home → Slot
slot_of_home d (home.Local slot) = slot
slot_of_home d (home.Variable own) = d
slot_of_home d (home.Array a) = d
slot_of_home d (home.Constant word) = d

made_other : (at : Option Home) (st : State) (a : ArrayId) → made_for at st ≡ Some a → (slot : Slot) × (at ≡ Some (home.Local slot)) × (a ≡ array_number (length st.arrays))
made_other (Some (home.Local slot)) st a e = (slot, refl, same_Some a (array_number (length st.arrays)) (sym e))
made_other (Some (home.Variable own)) st a e = absurd (none-some a e)
made_other (Some (home.Array b)) st a e = absurd (none-some a e)
made_other (Some (home.Constant word)) st a e = absurd (none-some a e)
made_other None st a e = absurd (none-some a e)

module _ (unary_fits : UnaryFits) (binary_fits : BinaryFits) (f : Frame) (k : ℕ) (here : Here) (c : Call) (S : Setting) (Homes0 : Spot → Home → Type 0) (Lives0 : Spot → Type 0) (kinds : Known) (fresh_ base : ℕ) (frame : IsFrame f here c S Homes0 Lives0 kinds fresh_ base) (cc : CoreCalls) (g : Callee) (callees : (r : Reach) → CalleesKeep f (objects_in S r) g c) (calls : (r : Reach) (seen : ℕ → Option ArrayId) (st : State) → IsScene f c S Homes0 base r seen st → CallsSame k f here c (objects_in S r) (HomesIn here c Homes0 Lives0 seen) (LivesIn here c Homes0 Lives0 r) kinds base (length st.arrays) (seen_cell seen) cc g) where
  abbrev I : Reach → (ℕ → Option ArrayId) → Cells → Store → Type 0
  I = Relates f here c Homes0 Lives0 kinds

  -- an object of the call is unwritten again
  relates_forgotten : (i : ℕ) (r : Reach) (seen : ℕ → Option ArrayId) (s : Cells) (t : Store) → S.params ≤ i → I r seen s t → I r seen (put s (here.spots i) (forgotten (s (here.spots i)))) t
  relates_forgotten i r seen s t le h =
      let d = here.spots i in
      let u = forgotten (s d) in (
        record {
          objects = λ x g a l. elim (spot_tells d x) [
            | inl same ↦
                let here_x : put s d u x ≡ forgotten (s x) = ap (put s d u) (sym same) ∙ put_here s d u ∙ ap (λ z. forgotten (s z)) same in
                subst (λ z. Stands f g z t) (sym here_x) (forgotten_stands f g (s x) t (h.0.objects x g a l))
            | inr ne ↦ subst (λ z. Stands f g z t) (sym (put_other s d x u ne)) (h.0.objects x g a l)
          ];
          kinds = λ x word a l. elim (spot_tells d x) [
            | inl same ↦ ap (λ (z : Object). z.kind) (ap (put s d u) (sym same) ∙ put_here s d u ∙ ap (λ z. forgotten (s z)) same) ∙ h.0.kinds x word a l
            | inr ne ↦ ap (λ (z : Object). z.kind) (put_other s d x u ne) ∙ h.0.kinds x word a l
          ];
          whole = λ x w. (
              let ne : d ≢ x = λ same. frame.whole i le (subst kinds.Whole (sym same ∙ frame.spots i le) w) in
              subst IsWhole (sym (put_other s d x u ne)) (h.0.whole x w));
          fits = λ x o q l. (
              let p = h.0.fits x o q l in
              elim (spot_tells d x) [
                | inl same ↦
                    let e = ap (put s d u) (sym same) ∙ put_here s d u ∙ ap (λ z. forgotten (s z)) same in
                    (ap (λ (z : Object). z.kind) e ∙ p.0, ap (λ (z : Object). z.lengths) e ∙ p.1)
                | inr ne ↦ (let e = put_other s d x u ne in (ap (λ (z : Object). z.kind) e ∙ p.0, ap (λ (z : Object). z.lengths) e ∙ p.1))
              ]);
        },
        h.1,
      )

  -- the scene behind a declaration that is reached, in a state where the array for it is noted
  pub scene_reached : (i : ℕ) (r : Reach) (seen : ℕ → Option ArrayId) (st st' : State) → IsScene f c S Homes0 base r seen st → (r.Ready i → ⊥) → IsWithin st' f
      → IsGrown (λ j. (slot : Slot) → slice_get c.homes i ≡ Some (home.Local slot) → slot.0 ≢ j) st st'
      → ((slot : Slot) → slice_get c.homes i ≡ Some (home.Local slot) → (slice_get st'.slots slot.0 ≡ Some (Some (array_number (length st.arrays)))) × (length st.arrays < length st'.arrays)
      × ((o : CoreObjectTree) → slice_get S.objects i ≡ Some o → slice_get f.arrays (length st.arrays) ≡ Some (array_like o None None false)))
      → IsScene f c S Homes0 base (reach i r) (with_seen seen i (made_for (slice_get c.homes i) st)) st'
  scene_reached i r seen st st' h no_ within grown made =
      let m = made_for (slice_get c.homes i) st in
      let seen' = with_seen seen i m in
      let at_i = λ (a : ArrayId) (e : seen' i ≡ Some a). made_other (slice_get c.homes i) st a (sym (with_here seen i m) ∙ e) in
      let at_other = λ (j : ℕ) (a : ArrayId) (ne : i ≢ j) (e : seen' j ≡ Some a). (let q : seen j ≡ Some a = sym (with_other seen i j m ne) ∙ e in q) in
      record {
        low = le_trans h.low grown.more;
        called = (let a = h.called in let b = grown.calls in omega (arith, a, b));
        slots = λ j slot e. (let q = h.slots j slot e in let b = grown.more_slots in omega (arith, q, b));
        noted = λ j slot a e z. elim (eqb_tells i j) [
          | inl same ↦
              let w = at_i a (subst (λ z. seen' z ≡ Some a) (sym same.1) z) in
              let e' = subst (λ z. slice_get c.homes z ≡ Some (home.Local slot)) (sym same.1) e in
              (made slot e').0 ∙ ap (λ z. Some (Some z)) (sym w.2)
          | inr ne ↦ grown.slots slot.0 (Some a) (λ slot1 e1 q. ne.1 (frame.own_slots i j slot1 slot e1 e q)) (h.noted j slot a e (at_other j a ne.1 z))
        ];
        arrays = λ x a p. (let q = h.arrays x a p in let b = grown.more_arrays in omega (arith, q, b));
        seen_low = λ j a z. elim (eqb_tells i j) [
          | inl same ↦
              let w = at_i a (subst (λ z. seen' z ≡ Some a) (sym same.1) z) in
              let lt = (made w.0 w.1).1 in
              let q = ap (λ (z : ArrayId). z.0) w.2 in
              omega (arith, lt, q)
          | inr ne ↦ (let q = h.seen_low j a (at_other j a ne.1 z) in let b = grown.more_arrays in omega (arith, q, b))
        ];
        seen_apart = λ x a j b p z. elim (eqb_tells i j) [
          | inl same ↦
              let w = at_i b (subst (λ z. seen' z ≡ Some b) (sym same.1) z) in
              let lt = h.arrays x a p in
              let q = ap (λ (z : ArrayId). z.0) w.2 in
              λ e. omega (arith, lt, q, e)
          | inr ne ↦ h.seen_apart x a j b p (at_other j b ne.1 z)
        ];
        seen_own = λ j j' a b z z' e. elim (eqb_tells i j) [
          | inl same ↦ elim (eqb_tells i j') [
            | inl same' ↦ sym same.1 ∙ same'.1
            | inr ne' ↦
                let w = at_i a (subst (λ z. seen' z ≡ Some a) (sym same.1) z) in
                let lt = h.seen_low j' b (at_other j' b ne'.1 z') in
                let q = ap (λ (z : ArrayId). z.0) w.2 in
                absurd (omega (arith, lt, q, e))
          ]
          | inr ne ↦ elim (eqb_tells i j') [
            | inl same' ↦
                let w = at_i b (subst (λ z. seen' z ≡ Some b) (sym same'.1) z') in
                let lt = h.seen_low j a (at_other j a ne.1 z) in
                let q = ap (λ (z : ArrayId). z.0) w.2 in
                absurd (omega (arith, lt, q, e))
            | inr ne' ↦ h.seen_own j j' a b (at_other j a ne.1 z) (at_other j' b ne'.1 z') e
          ]
        ];
        seen_fits = λ j a o z e. elim (eqb_tells i j) [
          | inl same ↦
              let w = at_i a (subst (λ z. seen' z ≡ Some a) (sym same.1) z) in
              let there = (made w.0 w.1).2 o (subst (λ z. slice_get S.objects z ≡ Some o) (sym same.1) e) in
              (ap (λ (z : ArrayId). kind_at f.arrays z.0) w.2 ∙ ap pm.kind_in there, ap (λ (z : ArrayId). lengths_in (slice_get f.arrays z.0)) w.2 ∙ ap lengths_in there)
          | inr ne ↦ h.seen_fits j a o (at_other j a ne.1 z) e
        ];
        ready = λ j slot e p. elim (eqb_tells i j) [
          | inl same ↦ (array_number (length st.arrays), subst (λ z. seen' z ≡ Some (array_number (length st.arrays))) same.1 (with_here seen i m ∙ ap (λ z. made_for z st) (subst (λ z. slice_get c.homes z ≡ Some (home.Local slot)) (sym same.1) e)))
          | inr ne ↦ elim p [
            | inl q ↦ absurd (ne.1 (sym q))
            | inr q ↦ (let w = h.ready j slot e q in (w.0, with_other seen i j m ne.1 ∙ w.1))
          ]
        ];
        unready = λ j a z. elim (eqb_tells i j) [
          | inl same ↦ inl (sym same.1)
          | inr ne ↦ inr (h.unready j a (at_other j a ne.1 z))
        ];
      }

  -- What is made for a declaration, and what it leaves.
  pub record IsDeclared (object : ℕ) (init : CoreInitTree) (r : Reach) (seen : ℕ → Option ArrayId) (st : State) : Type 0 where
    pub scene : IsScene f c S Homes0 base (reach object r) (with_seen seen object (made_for (slice_get c.homes object) st)) (declare g c object init st).state
    pub same : (s : Cells) (t : Store) (n : ℕ) → n ≤ k → I r seen s t → Same false k (λ (u : Unit {0}) s1 w t1. (w ≡ on) × I (reach object r) (with_seen seen object (made_for (slice_get c.homes object) st)) s1 t1)
        (ks.declare cc (here.spots object) (ks.kind_in (slice_get here.objects object)) init here s n) (run_of f (declare g c object init st).pieces t n)

  same_state : (st : State) (P : ℕ → Type 0) → IsGrown P st st
  same_state st P = record { variables = λ i x e. e; more = le_refl _; arrays = λ i x e. e; more_arrays = le_refl _; slots = λ i x p e. e; more_slots = le_refl _; calls = le_refl _ }

  no_slot : (i : ℕ) (own : VarId) (slot : Slot) → slice_get c.homes i ≡ Some (home.Variable own) → slice_get c.homes i ≡ Some (home.Local slot) → ⊥
  no_slot i own slot e e' = subst IsVariableHome (same_Some (home.Variable own) (home.Local slot) (sym e ∙ e')) tt

  -- a scalar
  scalar_at : (object : ℕ) (init : CoreInitTree) (r : Reach) (seen : ℕ → Option ArrayId) (st : State) (o : CoreObjectTree) (own : VarId) → InitSound S (reach object r) o init → IsScene f c S Homes0 base r seen st → S.params ≤ object → r.Lives object → (r.Ready object → ⊥)
      → slice_get S.objects object ≡ Some o → IsScalar o → slice_get c.homes object ≡ Some (home.Variable own) → variable_type f own.0 ≡ o.kind → IsWithin (scalar_declared g c own init st).state f
      → IsScene f c S Homes0 base (reach object r) (with_seen seen object (made_for (slice_get c.homes object) st)) (scalar_declared g c own init st).state
      × ((s : Cells) (t : Store) (n : ℕ) → n ≤ k → I r seen s t → Same false k (λ (u : Unit {0}) s1 w t1. (w ≡ on) × I (reach object r) (with_seen seen object (made_for (slice_get c.homes object) st)) s1 t1)
      (ks.declare cc (here.spots object) (ks.kind_in (slice_get here.objects object)) init here s n) (run_of f (scalar_declared g c own init st).pieces t n))
  unfolding then_ emit declared
  scalar_at object core.unwritten r seen st o own sound scene le lives no_ e is_scalar at type within =
      let seen1 = with_seen seen object (made_for (slice_get c.homes object) st) in
      let Q = λ (u : Unit {0}) (s1 : Cells) (w : Way) (t1 : Store). (w ≡ on) × I (reach object r) seen1 s1 t1 in (
        scene_reached object r seen st st scene no_ within (same_state st _) (λ slot e'. absurd (no_slot object own slot at e')),
        λ s t n le_n rel.
            goes_same k Q tt (put s (here.spots object) (forgotten (s (here.spots object)))) on t n le_n
            (refl, relates_reached f here c S Homes0 Lives0 kinds fresh_ base frame object r seen st (put s (here.spots object) (forgotten (s (here.spots object)))) t scene le lives no_ o e (λ slot e'. absurd (no_slot object own slot at e')) (relates_forgotten object r seen s t le rel)),
      )
  scalar_at object (core.single v) r seen st o own sound scene le lives no_ e is_scalar at type within =
      let r1 = reach object r in
      let seen1 = with_seen seen object (made_for (slice_get c.homes object) st) in
      let x = expression g c v st in
      let within_x : IsWithin x.state f = record { variables = within.variables; arrays = within.arrays } in
      let there = frame.spots object le in
      let d = here.spots object in
      let Q = λ (u : Unit {0}) (s1 : Cells) (w : Way) (t1 : Store). (w ≡ on) × I r1 seen1 s1 t1 in
      let later = any_later unary_fits binary_fits f k here c (objects_in S r) (HomesIn here c Homes0 Lives0 seen) (LivesIn here c Homes0 Lives0 r) kinds base (world_of f here c S Homes0 Lives0 kinds fresh_ base frame r seen st scene) cc g (callees r) v st in
      let scene1 = scene_reached object r seen st st scene no_ (within_before st x.state f later within_x) (same_state st _) (λ slot e'. absurd (no_slot object own slot at e')) in
      let kind_ : ks.kind_in (slice_get here.objects object) ≡ o.kind = ap ks.kind_in (ap (λ os. slice_get os object) frame.objects ∙ e) in
      let scene2 = scene_later f here c S Homes0 Lives0 kinds fresh_ base frame r1 seen1 st x.state later scene1 in (
        record {
          low = scene2.low;
          called = scene2.called;
          slots = scene2.slots;
          noted = scene2.noted;
          arrays = scene2.arrays;
          seen_low = scene2.seen_low;
          seen_apart = scene2.seen_apart;
          seen_own = scene2.seen_own;
          seen_fits = scene2.seen_fits;
          ready = scene2.ready;
          unready = scene2.unready;
        },
        λ s t n le_n rel.
            subst (λ kd. Same false k Q (ks.declare cc d kd (core.single v) here s n) (run_of f (x.pieces ++ (tree.set own x.value ∷ [])) t n)) (sym kind_)
            (on_same f k (HasValue unary_fits binary_fits f k here c S Homes0 Lives0 kinds fresh_ base frame cc g callees calls true v x.value r1 seen1) Q x.pieces (tree.set own x.value ∷ []) (ce.expression cc true v here s n) (λ y s1 n1. goes tt (ce.written d 0 (convert o.kind y) s1) n1) t n
            (evaluated unary_fits binary_fits f k here c S Homes0 Lives0 kinds fresh_ base frame cc g callees calls true v r1 seen1 st scene1 sound.1 within_x s t n le_n (relates_reached f here c S Homes0 Lives0 kinds fresh_ base frame object r seen st s t scene le lives no_ o e (λ slot e'. absurd (no_slot object own slot at e')) rel)) (λ y s1 w t1 a. a.on_)
            (λ y s1 w t1 n1 le1 a.
            let u = convert o.kind y in
            let t2 = with_variable own.0 u t1 in
            let own_home : HomesIn here c Homes0 Lives0 seen1 d (home.Variable own) = inr (object, there, subst (λ z. OwnHome (seen1 object) z (home.Variable own)) (sym at) refl) in
            let own_lives : LivesIn here c Homes0 Lives0 r1 d = inr (object, there, lives) in
            same_as k Q (goes tt (ce.written d 0 u s1) n1) (goes on t2 n1) (run_of f (tree.set own x.value ∷ []) t1 n1)
            (goes_set f own.0 x.value t1 y (a.value tt).0 n1 ∙ ap (λ z. goes on (with_variable own.0 (convert z y) t1) n1) type)
            (goes_same k Q tt (ce.written d 0 u s1) on t2 n1 le1 (
              refl,
              (
                shown_set f (HomesIn here c Homes0 Lives0 seen1) (LivesIn here c Homes0 Lives0 r1) kinds s1 t1 d own u (apart_of f here c S Homes0 Lives0 kinds fresh_ base frame r1 seen1 st scene1) own_home own_lives a.relates.0,
                typed_set f t1 own.0 u a.relates.1 (subst (λ z. IsNumber z u) (sym type) (converted_number o.kind y)),
              ),
            )))),
      )
  scalar_at object (core.elements items) r seen st o own sound scene le lives no_ e is_scalar at type within = absurd (sound.0 is_scalar)

  scene_made : (m : ℕ) (r : Reach) (seen : ℕ → Option ArrayId) (st : State) → IsScene f c S Homes0 base r seen st → IsScene f c S Homes0 base r seen (record st { made = m })
  scene_made m r seen st h = made_anew unary_fits binary_fits f k here c S Homes0 Lives0 kinds fresh_ base frame cc g callees calls m r seen st h

  -- ---- arrays

  abbrev AnyExpression : CoreTree → Type 0
  AnyExpression e = CallsFit Anything e × ((x : Cell) → Changes x e → Sets f (λ t. Unit {0}) (variable c x).0)

  abbrev AnyObject : ℕ → Type 0
  AnyObject i = ((slot : Slot) → slice_get c.homes i ≡ Some (home.Local slot) → Unit {0} → ⊥) × ((name : VarId) → slice_get c.homes i ≡ Some (home.Variable name) → Sets f (λ t. Unit {0}) name.0)

  any_items : (items : List (Option CoreTree)) → EachItem AnyExpression AnyObject items
  any_items [] = tt
  any_items (None ∷ items) = (tt, any_items items)
  any_items (Some v ∷ items) = ((any_fit v, λ x d t y u. tt), any_items items)

  any_init : (init : CoreInitTree) → InInit AnyExpression AnyObject init
  any_init core.unwritten = tt
  any_init (core.single v) = (any_fit v, λ x d t y u. tt)
  any_init (core.elements items) = any_items items

  filled_grown : (a : ArrayId) (lengths : List ℕ) (n : ℕ) (items : List (Option CoreTree)) (r : Reach) (st : State) → IsGrown (λ i. Unit {0}) st (filled g c a lengths n items st).state
  filled_grown a lengths n items r st =
      (filled_keeps f (λ t. Unit {0}) (λ i. Unit {0}) 0 (λ i le t x u. tt) g c Anything (callees r).any (λ i lt t x u. tt) (λ t d i x u. tt) a lengths n items st (omega arith) (any_items items)).grown

  initialised_grown : (a : ArrayId) (lengths : List ℕ) (init : CoreInitTree) (r : Reach) (st : State) → IsGrown (λ i. Unit {0}) st (initialised g c a lengths init st).state
  initialised_grown a lengths init r st =
      (initialised_keeps f (λ t. Unit {0}) (λ i. Unit {0}) 0 (λ i le t x u. tt) g c Anything (callees r).any (λ i lt t x u. tt) (λ t d i x u. tt) a lengths init st (omega arith) (any_init init)).grown

  -- what is made so far when the array of a declaration is noted
  abbrev noted_in : CoreObjectTree → Slot → State → State
  noted_in o slot st = record st { arrays = st.arrays ++ array_like o None None false ∷ []; slots = slice_set st.slots slot.0 (Some (array_number (length st.arrays))) }

  -- The array that is made for a declaration stands in the whole program.
  array_there : (r : Reach) (st : State) (o : CoreObjectTree) (slot : Slot) (init : CoreInitTree) → IsWithin (declared_as g c (Some (home.Local slot)) (Some o) init st).state f → slice_get f.arrays (length st.arrays) ≡ Some (array_like o None None false)
  unfolding then_ declared add_array note_array
  array_there r st o slot init within =
      let a = array_like o None None false in
      let grown = initialised_grown (array_number (length st.arrays)) o.lengths init r (noted_in o slot st) in
      within.arrays (length st.arrays) a (grown.arrays (length st.arrays) a (last_one st.arrays a))

  -- the scene behind a declaration whose array is noted
  scene_noted : (object : ℕ) (init : CoreInitTree) (r : Reach) (seen : ℕ → Option ArrayId) (st : State) (o : CoreObjectTree) (slot : Slot) → IsScene f c S Homes0 base r seen st → (r.Ready object → ⊥) → slice_get S.objects object ≡ Some o → slice_get c.homes object ≡ Some (home.Local slot)
      → IsWithin (declared_as g c (Some (home.Local slot)) (Some o) init st).state f → IsScene f c S Homes0 base (reach object r) (with_seen seen object (made_for (slice_get c.homes object) st)) (noted_in o slot st)
  unfolding then_ declared add_array note_array
  scene_noted object init r seen st o slot scene no_ e at within =
      let a = array_like o None None false in
      let number = array_number (length st.arrays) in
      let longer = length-append st.arrays (a ∷ []) in
      let grown = initialised_grown number o.lengths init r (noted_in o slot st) in
      let in_frame = array_there r st o slot init within in
      scene_reached object r seen st (noted_in o slot st) scene no_ (within_grown (λ i. Unit {0}) (noted_in o slot st) (initialised g c number o.lengths init (noted_in o slot st)).state f grown within)
      (record { variables = λ i x e. e; more = le_refl _; arrays = begins_more st.arrays (a ∷ []); more_arrays = omega (arith, longer); slots = λ i x p e1. slots_there st.slots slot.0 i (Some number) (p slot at) ∙ e1; more_slots = (let q = slots_length st.slots slot.0 (Some number) in omega (arith, q)); calls = le_refl _ })
      (λ slot' e'.
      let same : slot ≡ slot' = ap (slot_of_home slot) (same_Some (home.Local slot) (home.Local slot') (sym at ∙ e')) in (
        subst (λ (z : Slot). slice_get (slice_set st.slots slot.0 (Some number)) z.0 ≡ Some (Some number)) same (slots_here st.slots slot.0 (Some number) (scene.slots object slot at)),
        (let z : length st.arrays < length (st.arrays ++ a ∷ []) = omega (arith, longer) in z),
        λ o1 e1. in_frame ∙ ap (λ (z : CoreObjectTree). Some (array_like z None None false)) (same_Some o o1 (sym e ∙ e1)),
      ))

  -- an element of an array that is there is written in both
  relates_written : (r : Reach) (seen : ℕ → Option ArrayId) (st : State) (d : Spot) (a : ArrayId) (i : ℕ) (kd : CType) (y : ℤ) (s : Cells) (t : Store) → IsScene f c S Homes0 base r seen st → HomesIn here c Homes0 Lives0 seen d (home.Array a) → LivesIn here c Homes0 Lives0 r d → kind_at f.arrays a.0 ≡ kd
      → I r seen s t → I r seen (ce.written d i (convert kd y) s) (with_element a.0 i (convert kd y) t)
  relates_written r seen st d a i kd y s t scene stands lives type rel = (
    shown_put f (HomesIn here c Homes0 Lives0 seen) (LivesIn here c Homes0 Lives0 r) kinds s t d a i (convert kd y) (apart_of f here c S Homes0 Lives0 kinds fresh_ base frame r seen st scene) stands lives rel.0,
    typed_element f t a.0 i (convert kd y) rel.1 (subst (λ z. IsNumber z (convert kd y)) (sym type) (converted_number kd y)),
  )

  -- The elements from one on are written in their order.
  filled_same : (d : Spot) (a : ArrayId) (kd : CType) (lengths : List ℕ) (r : Reach) (seen : ℕ → Option ArrayId) (items : List (Option CoreTree)) (element : ℕ) (st : State) → IsScene f c S Homes0 base r seen st → HomesIn here c Homes0 Lives0 seen d (home.Array a) → LivesIn here c Homes0 Lives0 r d
      → kind_at f.arrays a.0 ≡ kd → lengths_in (slice_get f.arrays a.0) ≡ lengths → element + length items ≤ element_count lengths → element_count lengths ≤ 2 ^ 31 → ItemsSound S r items → IsWithin (filled g c a lengths element items st).state f
      → (s : Cells) (t : Store) (n : ℕ) → n ≤ k → I r seen s t → Same false k (λ (u : Unit {0}) s1 w t1. (w ≡ on) × I r seen s1 t1) (ks.initialise cc d kd items element here s n) (run_of f (filled g c a lengths element items st).pieces t n)
  unfolding then_ emit
  filled_same d a kd lengths r seen [] element st scene stands lives type long le few sound within s t n le_n rel = goes_same k (λ (u : Unit {0}) s1 w t1. (w ≡ on) × I r seen s1 t1) tt s on t n le_n (refl, rel)
  filled_same d a kd lengths r seen (None ∷ items) element st scene stands lives type long le few sound within s t n le_n rel =
      let Q = λ (u : Unit {0}) (s1 : Cells) (w : Way) (t1 : Store). (w ≡ on) × I r seen s1 t1 in
      let zero_ = tree.number 0 int_type in
      let st1 = record st { made = st.made + 1 } in
      let y = filled g c a lengths (element + 1) items st1 in
      let zero_is = zero_converted kd in
      let put_ = tree.put a (subscripts_at lengths element) zero_ c.body_at in
      let goes_there : Goes f (put_ ∷ []) t (with_element a.0 element (pos 0) t) = λ m. goes_put f a kd lengths element zero_ (pos 0) c.body_at t type long (omega (arith, le)) few refl m ∙ ap (λ z. goes on (with_element a.0 element z t) m) zero_is in
      let rel1 = subst (λ z. I r seen (ce.written d element z s) (with_element a.0 element z t)) zero_is (relates_written r seen st d a element kd (pos 0) s t scene stands lives type rel) in
      goes_first f k Q (put_ ∷ []) y.pieces (ks.initialise cc d kd items (element + 1) here (ce.written d element (pos 0) s) n) t (with_element a.0 element (pos 0) t) n goes_there
      (filled_same d a kd lengths r seen items (element + 1) st1 (scene_made (st.made + 1) r seen st scene) stands lives type long (omega (arith, le)) few sound.1 within (ce.written d element (pos 0) s) (with_element a.0 element (pos 0) t) n le_n rel1)
  filled_same d a kd lengths r seen (Some v ∷ items) element st scene stands lives type long le few sound within s t n le_n rel =
      let Q = λ (u : Unit {0}) (s1 : Cells) (w : Way) (t1 : Store). (w ≡ on) × I r seen s1 t1 in
      let x = expression g c v st in
      let st1 = record x.state { made = x.state.made + 1 } in
      let y = filled g c a lengths (element + 1) items st1 in
      let within1 = within_grown (λ i. Unit {0}) st1 y.state f (filled_grown a lengths (element + 1) items r st1) within in
      let within_x : IsWithin x.state f = record { variables = within1.variables; arrays = within1.arrays } in
      let scene_x = scene_later f here c S Homes0 Lives0 kinds fresh_ base frame r seen st x.state (expression_later unary_fits binary_fits f k here c S Homes0 Lives0 kinds fresh_ base frame cc g callees calls r seen st scene v) scene in
      let put_ = tree.put a (subscripts_at lengths element) x.value c.body_at in
      on_same f k (HasValue unary_fits binary_fits f k here c S Homes0 Lives0 kinds fresh_ base frame cc g callees calls true v x.value r seen) Q x.pieces ((put_ ∷ []) ++ y.pieces) (ce.expression cc true v here s n) (λ w1 s1 n1. ks.initialise cc d kd items (element + 1) here (ce.written d element (convert kd w1) s1) n1) t n
      (evaluated unary_fits binary_fits f k here c S Homes0 Lives0 kinds fresh_ base frame cc g callees calls true v r seen st scene sound.0 within_x s t n le_n rel) (λ w1 s1 w t1 q. q.on_)
      (λ w1 s1 w t1 n1 le1 q.
      let t2 = with_element a.0 element (convert kd w1) t1 in
      goes_first f k Q (put_ ∷ []) y.pieces (ks.initialise cc d kd items (element + 1) here (ce.written d element (convert kd w1) s1) n1) t1 t2 n1 (goes_put f a kd lengths element x.value w1 c.body_at t1 type long (omega (arith, le)) few (q.value tt).0)
      (filled_same d a kd lengths r seen items (element + 1) st1 (scene_made (x.state.made + 1) r seen x.state scene_x) stands lives type long (omega (arith, le)) few sound.1 within (ce.written d element (convert kd w1) s1) t2 n1 le1
      (relates_written r seen st d a element kd w1 s1 t1 scene stands lives type q.relates)))

  -- an array, which is made when its declaration is reached
  array_at : (object : ℕ) (init : CoreInitTree) (r : Reach) (seen : ℕ → Option ArrayId) (st : State) (o : CoreObjectTree) (slot : Slot) → InitSound S (reach object r) o init → IsScene f c S Homes0 base r seen st → S.params ≤ object → r.Lives object → (r.Ready object → ⊥)
      → slice_get S.objects object ≡ Some o → IsArray o → slice_get c.homes object ≡ Some (home.Local slot) → IsWithin (declared_as g c (Some (home.Local slot)) (Some o) init st).state f
      → IsScene f c S Homes0 base (reach object r) (with_seen seen object (made_for (slice_get c.homes object) st)) (declared_as g c (Some (home.Local slot)) (Some o) init st).state
      × ((s : Cells) (t : Store) (n : ℕ) → n ≤ k → I r seen s t → Same false k (λ (u : Unit {0}) s1 w t1. (w ≡ on) × I (reach object r) (with_seen seen object (made_for (slice_get c.homes object) st)) s1 t1)
      (ks.declare cc (here.spots object) (ks.kind_in (slice_get here.objects object)) init here s n) (run_of f (declared_as g c (Some (home.Local slot)) (Some o) init st).pieces t n))
  unfolding then_ declared add_array note_array
  array_at object core.unwritten r seen st o slot sound scene le lives no_ e is_array at within =
      let seen1 = with_seen seen object (made_for (slice_get c.homes object) st) in
      let Q = λ (u : Unit {0}) (s1 : Cells) (w : Way) (t1 : Store). (w ≡ on) × I (reach object r) seen1 s1 t1 in
      let in_frame = array_there r st o slot core.unwritten within in (
        scene_noted object core.unwritten r seen st o slot scene no_ e at within,
        λ s t n le_n rel.
            goes_same k Q tt (put s (here.spots object) (forgotten (s (here.spots object)))) on t n le_n
            (refl, relates_reached f here c S Homes0 Lives0 kinds fresh_ base frame object r seen st (put s (here.spots object) (forgotten (s (here.spots object)))) t scene le lives no_ o e (λ slot' e'. in_frame) (relates_forgotten object r seen s t le rel)),
      )
  array_at object (core.single v) r seen st o slot sound scene le lives no_ e is_array at within = absurd (is_array sound.0)
  array_at object (core.elements items) r seen st o slot sound scene le lives no_ e is_array at within =
      let r1 = reach object r in
      let seen1 = with_seen seen object (made_for (slice_get c.homes object) st) in
      let number = array_number (length st.arrays) in
      let d = here.spots object in
      let there = frame.spots object le in
      let Q = λ (u : Unit {0}) (s1 : Cells) (w : Way) (t1 : Store). (w ≡ on) × I r1 seen1 s1 t1 in
      let in_frame = array_there r st o slot (core.elements items) within in
      let st1 = noted_in o slot st in
      let scene1 = scene_noted object (core.elements items) r seen st o slot scene no_ e at within in
      let is_seen : seen1 object ≡ Some number = with_here seen object (made_for (slice_get c.homes object) st) ∙ ap (λ z. made_for z st) at in
      let stands : HomesIn here c Homes0 Lives0 seen1 d (home.Array number) = inr (object, there, subst (λ z. OwnHome (seen1 object) z (home.Array number)) (sym at) (sym (ap (λ z. local_home z slot) is_seen))) in
      let lives1 : LivesIn here c Homes0 Lives0 r1 d = inr (object, there, lives) in
      let kind_ : ks.kind_in (slice_get here.objects object) ≡ o.kind = ap ks.kind_in (ap (λ os. slice_get os object) frame.objects ∙ e) in (
        scene_grown f here c S Homes0 Lives0 kinds fresh_ base frame (λ i. Unit {0}) r1 seen1 st1 (filled g c number o.lengths 0 items st1).state (λ i slot1 a1 e1 z. tt) (filled_grown number o.lengths 0 items r st1) scene1,
        λ s t n le_n rel.
            subst (λ kd. Same false k Q (ks.initialise cc d kd items 0 here s n) (run_of f (filled g c number o.lengths 0 items st1).pieces t n)) (sym kind_)
            (filled_same d number o.kind o.lengths r1 seen1 items 0 st1 scene1 stands lives1 (ap kind_in in_frame) (ap lengths_in in_frame) (let fit = sound.1 in omega (arith, fit)) sound.3 sound.2 within s t n le_n
            (relates_reached f here c S Homes0 Lives0 kinds fresh_ base frame object r seen st s t scene le lives no_ o e (λ slot' e'. in_frame) rel)),
      )

  pub declare_same : (object : ℕ) (init : CoreInitTree) (r : Reach) (seen : ℕ → Option ArrayId) (Own : ℕ → Type 0) (labels breaks continues : Bool) (st : State) → StmtSound S r Own labels breaks continues (core.declare object init) → IsScene f c S Homes0 base r seen st
      → IsWithin (declare g c object init st).state f → IsDeclared object init r seen st
  declare_same object init r seen Own labels breaks continues st sound scene within =
      let o = sound.4.0 in
      let e = sound.4.1 in
      let object_ : slice_get c.objects object ≡ Some o = ap (λ os. slice_get os object) frame.call_objects ∙ e in
      let Goal = λ (at : Option Home) (ob : Option CoreObjectTree). IsWithin (declared_as g c at ob init st).state f
      → IsScene f c S Homes0 base (reach object r) (with_seen seen object (made_for (slice_get c.homes object) st)) (declared_as g c at ob init st).state
      × ((s : Cells) (t : Store) (n : ℕ) → n ≤ k → I r seen s t → Same false k (λ (u : Unit {0}) s1 w t1. (w ≡ on) × I (reach object r) (with_seen seen object (made_for (slice_get c.homes object) st)) s1 t1)
      (ks.declare cc (here.spots object) (ks.kind_in (slice_get here.objects object)) init here s n) (run_of f (declared_as g c at ob init st).pieces t n)) in
      let whole : Goal (slice_get c.homes object) (slice_get c.objects object) = elim (frame.own object o e) [
        | inl p ↦ subst (λ z. Goal z (slice_get c.objects object)) (sym p.2) (λ within1. scalar_at object init r seen st o p.1 sound.4.2 scene sound.1 sound.2 sound.3 e p.0 p.2 p.3 within1)
        | inr p ↦ elim p [
          | inl q ↦ absurd (let lt = q.1 in let ge = sound.1 in omega (arith, lt, ge))
          | inr q ↦ subst (λ z. Goal (slice_get c.homes object) z) (sym object_) (subst (λ z. Goal z (Some o)) (sym q.3) (λ within1. array_at object init r seen st o q.2 sound.4.2 scene sound.1 sound.2 sound.3 e q.0 q.3 within1))
        ]
      ] in
      let w = whole within in
      record { scene = w.0; same = w.1 }

  -- A declaration that is skipped by a jump is reached as if it had no initialiser, since nothing is written of its object.
  pub skip_declared : (object : ℕ) (init : CoreInitTree) (r : Reach) (seen : ℕ → Option ArrayId) (Own : ℕ → Type 0) (labels breaks continues : Bool) (st : State) → StmtSound S r Own labels breaks continues (core.declare object init) → IsScene f c S Homes0 base r seen st
      → IsWithin (declare g c object init st).state f → (s : Cells) (t : Store) → I r seen s t → I (reach object r) (with_seen seen object (made_for (slice_get c.homes object) st)) s t
  skip_declared object init r seen Own labels breaks continues st sound scene within s t rel =
      let o = sound.4.0 in
      let e = sound.4.1 in
      let object_ : slice_get c.objects object ≡ Some o = ap (λ os. slice_get os object) frame.call_objects ∙ e in
      relates_reached f here c S Homes0 Lives0 kinds fresh_ base frame object r seen st s t scene sound.1 sound.2 sound.3 o e
      (λ slot at. array_there r st o slot init (subst (λ z. IsWithin (declared_as g c z (Some o) init st).state f) at (subst (λ z. IsWithin (declared_as g c (slice_get c.homes object) z init st).state f) object_ within))) rel
