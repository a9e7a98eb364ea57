-- From one place of the text to another: objects whose lifetimes begin or end, and declarations that are reached or skipped.
use Rattle.std.proofs.Common.{◌≡◌, ◌≢◌, ℕ, ◌≤◌, ◌<◌, ◌==◌, ◌⊎◌, inl, inr, ◌∙◌, sym, refl, ap, subst, ℤ, Bool, true, false, true≢false, List, [], ◌∷◌, length, slice_get, Option, Some, None, le_refl, le_trans, arith, if◌then◌else◌, eq-eqb, replicate}
use Rattle.hls_base.specs.declared.number.ArrayId.{ArrayId}
use Rattle.pieces.specs.Resolved.Core.{CoreObjectTree}
use Rattle.piece_making.specs.declared.frame.Home.{Home}
use Rattle.piece_making.specs.declared.frame.Home.TheVariants as home
use Rattle.piece_making.specs.declared.work.Slot.{Slot}
use Rattle.piece_making.specs.Making.{State}
use Rattle.piece_making.specs.Calls.{Call}
use Rattle.c_meaning.specs.CoreRuns.Cells.{Spot, spot, Cells, Here, put, unwritten, entered}
use Rattle.c_meaning.specs.PieceRuns.Values.{Store}
use Rattle.c_meaning.specs.PieceRuns.Pieces.{Frame}
use Rattle.c_meaning.specs.PieceRuns.Values.{lengths_in}
use Rattle.c_meaning.specs.PieceRuns.Pieces.{kind_in}
use Rattle.std.specs.Prelude.{zero, suc}
use Rattle.c_meaning.specs.Store.{Object, element_in, fresh}
use Rattle.expand_runs.specs.Growing.{IsGrown, IsLater}
use Rattle.expand_runs.specs.Showing.{Known, IsShown, Stands, IsWhole}
use Rattle.expanded_programs.specs.Statements.Scopes.{Setting, Reach, AreNew, enter, reach}
use Rattle.expanded_programs.specs.Statements.Frames.{local_home, OwnHome, HomesIn, LivesIn, OwnStands, IsFrame, IsScene, Relates, IsInner, with_seen, made_for}
use Rattle.expand_runs.proofs.Showing.{put_here, put_other, spot_tells}
use Rattle.expanded_programs.proofs.StatementsLemmas.Scenes.{IsVariableHome, own_variable, own_array, own_constant, apart_declared, apart_lives}
use Rattle.hls_base.specs.ArrayAddress.{element_count}
use Rattle.hls_base.specs.declared.number.VarId.{VarId}
use Rattle.piece_making.specs.Objects.{array_like}
use Rattle.std.proofs.lemmas.Bool.Decides.{eqb_tells}
use Rattle.std.proofs.lemmas.Option.{same_Some}
use Rattle.expand_runs.specs.Reading.{variable_type}
use Rattle.expand_runs.proofs.Growing.{grown_later}

-- Less is shown of fewer objects.
pub shown_less : (f : Frame) (Homes Homes' : Spot → Home → Type 0) (Lives Lives' : Spot → Type 0) (known : Known) (s : Cells) (t : Store) → ((x : Spot) (h : Home) → Homes x h → Lives x → Homes' x h) → ((x : Spot) → Lives x → Lives' x)
    → IsShown f Homes' Lives' known s t → IsShown f Homes Lives known s t
shown_less f Homes Homes' Lives Lives' known s t homes lives h = record {
  objects = λ x g a l. h.objects x g (homes x g a l) (lives x l);
  kinds = λ x word a l. h.kinds x word (homes x (home.Constant word) a l) (lives x l);
  whole = h.whole;
  fits = λ x o d l. h.fits x o d (lives x l);
}

abbrev variable_of_home : VarId → Home → VarId
variable_of_home d (home.Variable own) = own
variable_of_home d (home.Array a) = d
variable_of_home d (home.Constant word) = d
variable_of_home d (home.Local slot) = d

pub nothing_in : (n i : ℕ) → element_in (slice_get (replicate n None) i) ≡ None
nothing_in zero i = refl
nothing_in (suc n) zero = refl
nothing_in (suc n) (suc i) = nothing_in n i

abbrev IsSome : {A : Type 0} → Option A → Type 0
IsSome None = ⊥
IsSome (Some x) = Unit {0}

pub none_some : {A : Type 0} (o : Option A) (v : A) → o ≡ None → o ≡ Some v → ⊥
none_some o v e e' = subst IsSome (sym e' ∙ e) tt

pub with_here : (seen : ℕ → Option ArrayId) (i : ℕ) (a : Option ArrayId) → with_seen seen i a i ≡ a
with_here seen i a = ap (λ b. if b then a else seen i) (eq-eqb i i refl)

pub with_other : (seen : ℕ → Option ArrayId) (i j : ℕ) (a : Option ArrayId) → i ≢ j → with_seen seen i a j ≡ seen j
with_other seen i j a ne = elim (eqb_tells i j) [ inl e ↦ absurd (ne e.1) | inr e ↦ ap (λ b. if b then a else seen j) e.0 ]

module _ (f : Frame) (here : Here) (c : Call) (S : Setting) (Homes0 : Spot → Home → Type 0) (Lives0 : Spot → Type 0) (kinds : Known) (fresh_ base : ℕ) (frame : IsFrame f here c S Homes0 Lives0 kinds fresh_ base) where
  abbrev I : Reach → (ℕ → Option ArrayId) → Cells → Store → Type 0
  I = Relates f here c Homes0 Lives0 kinds

  -- ---- out of a block

  pub relates_inner : (r r0 : Reach) (seen seen0 : ℕ → Option ArrayId) (s : Cells) (t : Store) → IsInner r seen r0 seen0 → I r seen s t → I r0 seen0 s t
  relates_inner r r0 seen seen0 s t inner h = (
    shown_less f (HomesIn here c Homes0 Lives0 seen0) (HomesIn here c Homes0 Lives0 seen) (LivesIn here c Homes0 Lives0 r0) (LivesIn here c Homes0 Lives0 r) kinds s t
        (λ x g a l. elim a [
          | inl p ↦ inl p
          | inr p ↦ inr (
            p.0,
            p.1,
            subst (λ z. OwnHome z (slice_get c.homes p.0) g) (sym (inner.same p.0 (elim l [
              | inl b ↦ absurd (apart_lives f here c S Homes0 Lives0 kinds fresh_ base frame x p.0 (seen0 p.0) g b p.1 p.2)
              | inr b ↦ subst r0.Lives (ap (λ (z : Spot). z.number) (sym b.1 ∙ p.1)) b.2
            ]))) p.2,
          )
        ])
        (λ x l. elim l [ inl b ↦ inl b | inr b ↦ inr (b.0, b.1, inner.lives b.0 b.2) ]) h.0,
    h.1,
  )

  -- ---- into a block

  pub in_enter : (objects : List ℕ) (r : Reach) (seen : ℕ → Option ArrayId) → IsInner (enter objects r) seen r seen
  in_enter objects r seen = record { lives = λ i l. inr l; same = λ i l. refl }

  -- an object of the call that is new is unwritten
  stands_new : (r : Reach) (seen : ℕ → Option ArrayId) (st : State) (t : Store) → IsScene f c S Homes0 base r seen st → (i : ℕ) → S.params ≤ i → (r.Ready i → ⊥) → (o : CoreObjectTree) → slice_get S.objects i ≡ Some o → (h : Home) → OwnHome (seen i) (slice_get c.homes i) h
      → Stands f h (unwritten (Some o)) t
  stands_new r seen st t scene i le fresh_i o e (home.Local slot) own = λ j. nothing_in (element_count o.lengths) j
  stands_new r seen st t scene i le fresh_i o e (home.Array a) own = absurd (fresh_i (scene.unready i a (own_array (seen i) (slice_get c.homes i) a own)))
  stands_new r seen st t scene i le fresh_i o e (home.Constant word) own = absurd (own_constant (seen i) (slice_get c.homes i) word own)
  stands_new r seen st t scene i le fresh_i o e (home.Variable name) own =
      let is_name = own_variable (seen i) (slice_get c.homes i) name own in
      elim (frame.own i o e) [
        | inl p ↦
            let same : p.1 ≡ name = ap (variable_of_home name) (same_Some (home.Variable p.1) (home.Variable name) (sym p.2 ∙ is_name)) in
            (sym p.3 ∙ ap (λ (z : VarId). variable_type f z.0) same, p.0, λ v z. absurd (none_some (element_in (slice_get (replicate (element_count o.lengths) None) 0)) v (nothing_in (element_count o.lengths) 0) z))
        | inr p ↦ elim p [
          | inl q ↦ absurd (let lt = q.1 in omega (arith, lt, le))
          | inr q ↦ absurd (subst IsVariableHome (sym (same_Some (home.Local q.2) (home.Variable name) (sym q.3 ∙ is_name))) tt)
        ]
      ]

  number_of_spot : (x : Spot) (i j : ℕ) → x ≡ spot here.frame i → x ≡ spot here.frame j → i ≡ j
  number_of_spot x i j e e' = ap (λ (z : Spot). z.number) (sym e ∙ e')

  enter_one : (i : ℕ) (r : Reach) (seen : ℕ → Option ArrayId) (st : State) (s : Cells) (t : Store) → IsScene f c S Homes0 base r seen st → S.params ≤ i → (r.Ready i → ⊥) → (o : CoreObjectTree) → slice_get S.objects i ≡ Some o → I r seen s t
      → I (enter (i ∷ []) r) seen (put s (here.spots i) (unwritten (slice_get here.objects i))) t
  enter_one i r seen st s t scene le fresh_i o e h =
      let d = here.spots i in
      let there : d ≡ spot here.frame i = frame.spots i le in
      let new : unwritten (slice_get here.objects i) ≡ unwritten (Some o) = ap unwritten (ap (λ os. slice_get os i) frame.objects ∙ e) in
      let u = unwritten (slice_get here.objects i) in
      let lives_before = λ (x : Spot) (ne : d ≢ x) (l : LivesIn here c Homes0 Lives0 (enter (i ∷ []) r) x).
      (let q : LivesIn here c Homes0 Lives0 r x = elim l [
        | inl b ↦ inl b
        | inr b ↦ elim b.2 [
          | inl m ↦ elim m [ inl same ↦ absurd (ne (there ∙ ap (spot here.frame) (sym same) ∙ sym b.1)) | inr no_ ↦ absurd no_ ]
          | inr m ↦ inr (b.0, b.1, m)
        ]
      ] in q) in (
        record {
          objects = λ x g a l. elim (spot_tells d x) [
            | inl same ↦
                let here_x : put s d u x ≡ unwritten (Some o) = ap (put s d u) (sym same) ∙ put_here s d u ∙ new in
                subst (λ z. Stands f g z t) (sym here_x) (elim a [
                  | inl p ↦ absurd (apart_declared f here c S Homes0 Lives0 kinds fresh_ base frame x g i o p (sym same ∙ there) le e)
                  | inr p ↦ stands_new r seen st t scene i le fresh_i o e g (subst (λ j. OwnHome (seen j) (slice_get c.homes j) g) (number_of_spot x p.0 i p.1 (sym same ∙ there)) p.2)
                ])
            | inr ne ↦ subst (λ z. Stands f g z t) (sym (put_other s d x u ne)) (h.0.objects x g a (lives_before x ne l))
          ];
          kinds = λ x word a l. elim a [
            | inl p ↦
                let ne : d ≢ x = λ same. apart_declared f here c S Homes0 Lives0 kinds fresh_ base frame x (home.Constant word) i o p (sym same ∙ there) le e in
                ap (λ (z : Object). z.kind) (put_other s d x u ne) ∙ h.0.kinds x word (inl p) (lives_before x ne l)
            | inr p ↦ absurd (own_constant (seen p.0) (slice_get c.homes p.0) word p.2)
          ];
          whole = λ x w. (
              let ne : d ≢ x = λ same. frame.whole i le (subst kinds.Whole (sym same ∙ there) w) in
              subst IsWhole (sym (put_other s d x u ne)) (h.0.whole x w));
          fits = λ x o1 q l. elim (spot_tells d x) [
            | inl same ↦
                let here_x : put s d u x ≡ unwritten (Some o) = ap (put s d u) (sym same) ∙ put_here s d u ∙ new in
                let same_o : o ≡ o1 = same_Some o o1 (sym e ∙ frame.declared i o1 (subst (λ z. kinds.Declared z o1) (sym same ∙ there) q)) in
                (ap (λ (z : Object). z.kind) here_x ∙ ap (λ (z : CoreObjectTree). z.kind) same_o, ap (λ (z : Object). z.lengths) here_x ∙ ap (λ (z : CoreObjectTree). z.lengths) same_o)
            | inr ne ↦
                let q0 = h.0.fits x o1 q (lives_before x ne l) in
                (ap (λ (z : Object). z.kind) (put_other s d x u ne) ∙ q0.0, ap (λ (z : Object). z.lengths) (put_other s d x u ne) ∙ q0.1)
          ];
        },
        h.1,
      )

  -- only what is reached matters to a scene
  pub scene_enter : (objects : List ℕ) (r : Reach) (seen : ℕ → Option ArrayId) (st : State) → IsScene f c S Homes0 base r seen st → IsScene f c S Homes0 base (enter objects r) seen st
  scene_enter objects r seen st h = record {
    low = h.low;
    called = h.called;
    slots = h.slots;
    noted = h.noted;
    arrays = h.arrays;
    seen_low = h.seen_low;
    seen_apart = h.seen_apart;
    seen_own = h.seen_own;
    seen_fits = h.seen_fits;
    ready = h.ready;
    unready = h.unready;
  }

  -- objects that are none of the parameters, and whose declarations are not reached
  abbrev pub AreReachable : Reach → List ℕ → Type 0
  AreReachable r [] = Unit {0}
  AreReachable r (i ∷ is) = ((S.params ≤ i) × (r.Ready i → ⊥) × (o : CoreObjectTree) × (slice_get S.objects i ≡ Some o)) × AreReachable r is

  same_reachable : (is : List ℕ) (r r1 : Reach) → ((j : ℕ) → r1.Ready j → r.Ready j) → AreReachable r is → AreReachable r1 is
  same_reachable [] r r1 h a = tt
  same_reachable (i ∷ is) r r1 h a = ((a.0.0, (λ z. a.0.1 (h i z)), a.0.2, a.0.3), same_reachable is r r1 h a.1)

  pub new_reachable : (is : List ℕ) (r : Reach) → AreNew S r is → AreReachable r is
  new_reachable [] r a = tt
  new_reachable (i ∷ is) r a = ((a.0.0, a.0.2, a.0.3.0, a.0.3.1), new_reachable is r a.1)

  -- The lifetimes of the objects of a block begin.
  pub relates_entered : (objects : List ℕ) (r : Reach) (seen : ℕ → Option ArrayId) (st : State) (s : Cells) (t : Store) → IsScene f c S Homes0 base r seen st → AreReachable r objects → I r seen s t → I (enter objects r) seen (entered here objects s) t
  relates_entered [] r seen st s t scene new h = relates_inner r (enter [] r) seen seen s t (record { lives = λ i l. elim l [ inl n ↦ absurd n | inr l ↦ l ]; same = λ i l. refl }) h
  relates_entered (i ∷ is) r seen st s t scene new h =
      let r1 = enter (i ∷ []) r in
      let s1 = put s (here.spots i) (unwritten (slice_get here.objects i)) in
      let h1 = enter_one i r seen st s t scene new.0.0 new.0.1 new.0.2 new.0.3 h in
      relates_inner (enter is r1) (enter (i ∷ is) r) seen seen (entered here is s1) t
      (record { lives = λ j l. elim l [ inl m ↦ elim m [ inl e ↦ inr (inl (inl e)) | inr m ↦ inl m ] | inr l ↦ inr (inr l) ]; same = λ j l. refl })
      (relates_entered is r1 seen st s1 t (scene_enter (i ∷ []) r seen st scene) (same_reachable is r r1 (λ j z. z) new.1) h1)

  -- ---- declarations

  pub seen_none : (r : Reach) (seen : ℕ → Option ArrayId) (st : State) → IsScene f c S Homes0 base r seen st → (i : ℕ) → (r.Ready i → ⊥) → seen i ≡ None
  seen_none r seen st scene i no_ = none_at (seen i) (λ a e. no_ (scene.unready i a e))
    where
      none_at : (x : Option ArrayId) → ((a : ArrayId) → x ≡ Some a → ⊥) → x ≡ None
      none_at None h = refl
      none_at (Some a) h = absurd (h a refl)

  -- A declaration of an object of which nothing is written is reached: what is made for it stands for it.
  pub relates_reached : (i : ℕ) (r : Reach) (seen : ℕ → Option ArrayId) (st : State) (s : Cells) (t : Store) → IsScene f c S Homes0 base r seen st → S.params ≤ i → r.Lives i → (r.Ready i → ⊥) → (o : CoreObjectTree) → slice_get S.objects i ≡ Some o
      → ((slot : Slot) → slice_get c.homes i ≡ Some (home.Local slot) → slice_get f.arrays (length st.arrays) ≡ Some (array_like o None None false)) → I r seen s t
      → I (reach i r) (with_seen seen i (made_for (slice_get c.homes i) st)) s t
  relates_reached i r seen st s t scene le lives no_ o e made h = (
    record {
      objects = λ x g a l. elim a [
        | inl p ↦ h.0.objects x g (inl p) l
        | inr p ↦ elim (eqb_tells i p.0) [
          | inr ne ↦ h.0.objects x g (inr (p.0, p.1, subst (λ z. OwnHome z (slice_get c.homes p.0) g) (with_other seen i p.0 (made_for (slice_get c.homes i) st) ne.1) p.2)) l
          | inl same ↦
              let at_i : x ≡ spot here.frame i = p.1 ∙ ap (spot here.frame) (sym same.1) in
              let own : OwnHome (made_for (slice_get c.homes i) st) (slice_get c.homes i) g =
              subst (λ z. OwnHome z (slice_get c.homes i) g) (with_here seen i (made_for (slice_get c.homes i) st)) (subst (λ j. OwnHome (with_seen seen i (made_for (slice_get c.homes i) st) j) (slice_get c.homes j) g) (sym same.1) p.2) in
              reached_at (slice_get c.homes i) refl x at_i g own l
        ]
      ];
      kinds = λ x word a l. elim a [
        | inl p ↦ h.0.kinds x word (inl p) l
        | inr p ↦ absurd (own_constant (with_seen seen i (made_for (slice_get c.homes i) st) p.0) (slice_get c.homes p.0) word p.2)
      ];
      whole = h.0.whole;
      fits = h.0.fits;
    },
    h.1,
  )
    where
      before : (at : Option Home) → slice_get c.homes i ≡ at → (x : Spot) → x ≡ spot here.frame i → (g : Home) → OwnHome None at g → LivesIn here c Homes0 Lives0 r x → Stands f g (s x) t
      before at is_at x at_i g own l = h.0.objects x g (inr (i, at_i, subst (λ z. OwnHome z (slice_get c.homes i) g) (sym (seen_none r seen st scene i no_)) (subst (λ z. OwnHome None z g) (sym is_at) own))) l

      reached_at : (at : Option Home) → slice_get c.homes i ≡ at → (x : Spot) → x ≡ spot here.frame i → (g : Home) → OwnHome (made_for at st) at g → LivesIn here c Homes0 Lives0 r x → Stands f g (s x) t
      reached_at (Some (home.Variable own)) is_at x at_i g is_own l = before (Some (home.Variable own)) is_at x at_i g is_own l
      reached_at (Some (home.Local slot)) is_at x at_i g is_own l =
          let nothing = before (Some (home.Local slot)) is_at x at_i (home.Local slot) refl l in
          let fit = h.0.fits x o (subst (λ z. kinds.Declared z o) (sym at_i) (frame.declares i o le e)) l in
          let array = made slot is_at in
          subst (λ z. Stands f z (s x) t) (sym is_own)
          (fit.0 ∙ sym (ap kind_in array), fit.1 ∙ sym (ap lengths_in array), λ j v z. absurd (none_some (element_in (slice_get (s x).elements j)) v (nothing j) z))
      reached_at (Some (home.Array a)) is_at x at_i g is_own l = absurd is_own
      reached_at (Some (home.Constant word)) is_at x at_i g is_own l = absurd is_own
      reached_at None is_at x at_i g is_own l = absurd is_own

  -- ---- what is made only grows

  pub scene_grown : (P : ℕ → Type 0) (r : Reach) (seen : ℕ → Option ArrayId) (st st' : State) → ((i : ℕ) (slot : Slot) (a : ArrayId) → slice_get c.homes i ≡ Some (home.Local slot) → seen i ≡ Some a → P slot.0) → IsGrown P st st' → IsScene f c S Homes0 base r seen st → IsScene f c S Homes0 base r seen st'
  scene_grown P r seen st st' kept grown h = record {
    low = le_trans h.low grown.more;
    called = (let a = h.called in let b = grown.calls in omega (arith, a, b));
    slots = λ i slot e. (let q = h.slots i slot e in let b = grown.more_slots in omega (arith, q, b));
    noted = λ i slot a e z. grown.slots slot.0 (Some a) (kept i slot a e z) (h.noted i slot a e z);
    arrays = λ x a p. (let q = h.arrays x a p in let b = grown.more_arrays in omega (arith, q, b));
    seen_low = λ i a p. (let q = h.seen_low i a p in let b = grown.more_arrays in omega (arith, q, b));
    seen_apart = h.seen_apart;
    seen_own = h.seen_own;
    seen_fits = h.seen_fits;
    ready = h.ready;
    unready = h.unready;
  }

  pub scene_later : (r : Reach) (seen : ℕ → Option ArrayId) (st st' : State) → IsLater st st' → IsScene f c S Homes0 base r seen st → IsScene f c S Homes0 base r seen st'
  scene_later r seen st st' later h = scene_grown (λ i. Unit {0}) r seen st st' (λ i slot a e z. tt) (grown_later (λ i. Unit {0}) st st' later) h
