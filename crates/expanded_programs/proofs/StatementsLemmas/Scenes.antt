-- What is known where the text is gives what is known of its objects.
use Rattle.std.proofs.Common.{◌≡◌, ◌≢◌, ℕ, ◌≤◌, ◌<◌, ◌==◌, ◌⊎◌, inl, inr, ◌∙◌, sym, refl, ap, subst, ℤ, Bool, true, false, true≢false, List, [], ◌∷◌, length, slice_get, Option, Some, None, le_refl, le_trans, arith, if◌then◌else◌, ap₂}
use Rattle.std.proofs.lemmas.Option.{same_Some, none-some}
use Rattle.hls_base.specs.declared.number.VarId.{VarId}
use Rattle.hls_base.specs.declared.number.ArrayId.{ArrayId}
use Rattle.c_token.specs.declared.ctype.CType.{CType}
use Rattle.c_value.specs.Values.{number_of}
use Rattle.pieces.specs.declared.resolved.expression.Cell.{Cell}
use Rattle.pieces.specs.declared.resolved.expression.Scope.{Scope}
use Rattle.pieces.specs.declared.resolved.expression.Scope.TheVariants as scope
use Rattle.pieces.specs.Resolved.Core.{CoreObjectTree, FileObjectTree}
use Rattle.piece_making.specs.declared.frame.Home.{Home}
use Rattle.piece_making.specs.declared.frame.Home.TheVariants as home
use Rattle.piece_making.specs.declared.work.Slot.{Slot}
use Rattle.piece_making.specs.Making.{State}
use Rattle.piece_making.specs.Calls.{Call, homes_in, home_of}
use Rattle.c_meaning.specs.CoreRuns.Cells.{Spot, spot, Cells, Here, spot_in, spot_of}
use Rattle.c_meaning.specs.PieceRuns.Values.{Store}
use Rattle.c_meaning.specs.PieceRuns.Pieces.{Frame, kind_at}
use Rattle.expand_runs.specs.Reading.{IsTyped, IsNumber, variable_type}
use Rattle.expand_runs.specs.Growing.{IsLater, IsGrown}
use Rattle.expand_runs.specs.Showing.{Known, IsShown, IsApart, AreBelow, Stands}
use Rattle.expand_runs.specs.Evaluating.{IsLinked}
use Rattle.expand_runs.specs.Worlds.{IsWorld, IsOver, IsArrayOf}
use Rattle.expanded_programs.specs.Statements.Scopes.{Setting, Reach, IsScalar, IsArray, ScalarIn, VariableIn, ArrayIn, objects_in}
use Rattle.expanded_programs.specs.Statements.Frames.{local_home, OwnHome, HomesIn, LivesIn, FileStands, OwnStands, IsFrame, IsScene, Relates, IsInner}

-- ---- homes of objects of the call

abbrev pub IsVariableHome : Home → Type 0
IsVariableHome (home.Variable own) = Unit {0}
IsVariableHome (home.Array a) = ⊥
IsVariableHome (home.Constant word) = ⊥
IsVariableHome (home.Local slot) = ⊥

abbrev IsArrayHome : Home → Type 0
IsArrayHome (home.Variable own) = ⊥
IsArrayHome (home.Array a) = Unit {0}
IsArrayHome (home.Constant word) = ⊥
IsArrayHome (home.Local slot) = ⊥

abbrev IsConstantHome : Home → Type 0
IsConstantHome (home.Variable own) = ⊥
IsConstantHome (home.Array a) = ⊥
IsConstantHome (home.Constant word) = Unit {0}
IsConstantHome (home.Local slot) = ⊥

abbrev IsLocalHome : Home → Type 0
IsLocalHome (home.Variable own) = ⊥
IsLocalHome (home.Array a) = ⊥
IsLocalHome (home.Constant word) = ⊥
IsLocalHome (home.Local slot) = Unit {0}

abbrev array_of_home : ArrayId → Home → ArrayId
array_of_home d (home.Array a) = a
array_of_home d (home.Variable own) = d
array_of_home d (home.Constant word) = d
array_of_home d (home.Local slot) = d

pub own_variable : (seen : Option ArrayId) (at : Option Home) (own : VarId) → OwnHome seen at (home.Variable own) → at ≡ Some (home.Variable own)
own_variable seen (Some (home.Variable own')) own e = ap Some (sym e)
own_variable None (Some (home.Local slot)) own e = absurd (subst IsVariableHome e tt)
own_variable (Some a) (Some (home.Local slot)) own e = absurd (subst IsVariableHome e tt)
own_variable seen (Some (home.Array a)) own e = absurd e
own_variable seen (Some (home.Constant word)) own e = absurd e
own_variable seen None own e = absurd e

pub own_array : (seen : Option ArrayId) (at : Option Home) (a : ArrayId) → OwnHome seen at (home.Array a) → seen ≡ Some a
own_array seen (Some (home.Variable own')) a e = absurd (subst IsArrayHome e tt)
own_array None (Some (home.Local slot)) a e = absurd (subst IsArrayHome e tt)
own_array (Some b) (Some (home.Local slot)) a e = ap (λ z. Some (array_of_home a z)) (sym e)
own_array seen (Some (home.Array b)) a e = absurd e
own_array seen (Some (home.Constant word)) a e = absurd e
own_array seen None a e = absurd e

pub own_constant : (seen : Option ArrayId) (at : Option Home) (word : ℕ) → OwnHome seen at (home.Constant word) → ⊥
own_constant seen (Some (home.Variable own')) word e = absurd (subst IsConstantHome e tt)
own_constant None (Some (home.Local slot)) word e = absurd (subst IsConstantHome e tt)
own_constant (Some b) (Some (home.Local slot)) word e = absurd (subst IsConstantHome e tt)
own_constant seen (Some (home.Array b)) word e = absurd e
own_constant seen (Some (home.Constant w)) word e = absurd e
own_constant seen None word e = absurd e

-- an array that is given is no object of the call
pub own_given : (seen : Option ArrayId) (at : Option Home) (h : Home) → (a : ArrayId) × (at ≡ Some (home.Array a)) → OwnHome seen at h → ⊥
own_given seen at h given own = subst (λ z. OwnHome seen z h) given.1 own

own_one : (seen : Option ArrayId) (at : Option Home) (h g : Home) → OwnHome seen at h → OwnHome seen at g → h ≡ g
own_one seen (Some (home.Variable own)) h g e e' = e ∙ sym e'
own_one seen (Some (home.Local slot)) h g e e' = e ∙ sym e'
own_one seen (Some (home.Array a)) h g e e' = absurd e
own_one seen (Some (home.Constant word)) h g e e' = absurd e
own_one seen None h g e e' = absurd e

-- ---- names

abbrev pub seen_in : (ℕ → Option ArrayId) → Scope → ℕ → Option ArrayId
seen_in seen scope.File i = None
seen_in seen scope.Call i = seen i

abbrev pub seen_cell : (ℕ → Option ArrayId) → Cell → Option ArrayId
seen_cell seen x = seen_in seen x.scope x.number

number_same : (d i j : ℕ) (x : Spot) → x ≡ spot d i → x ≡ spot d j → i ≡ j
number_same d i j x e e' = ap (λ (z : Spot). z.number) (sym e ∙ e')

-- what stands for an array, by its scope and number
abbrev pub IsArrayAt : (ℕ → Option ArrayId) → Scope → ℕ → Option Home → ArrayId → Type 0
IsArrayAt seen s i (Some (home.Array b)) a = b ≡ a
IsArrayAt seen s i (Some (home.Local slot)) a = seen_in seen s i ≡ Some a
IsArrayAt seen s i h a = ⊥

pub array_named : (seen : ℕ → Option ArrayId) (x : Cell) (h : Option Home) (a : ArrayId) → IsArrayAt seen x.scope x.number h a → IsArrayOf (seen_cell seen) x h a
array_named seen x (Some (home.Array b)) a e = e
array_named seen x (Some (home.Local slot)) a e = e
array_named seen x (Some (home.Variable own)) a e = absurd e
array_named seen x (Some (home.Constant word)) a e = absurd e
array_named seen x None a e = absurd e

pub cell_same : (x y : Cell) → x.scope ≡ y.scope → x.number ≡ y.number → x ≡ y
cell_same x y e e' = ap₂ (λ s n. record { scope = s; number = n }) e e'

module _ (f : Frame) (here : Here) (c : Call) (S : Setting) (Homes0 : Spot → Home → Type 0) (Lives0 : Spot → Type 0) (kinds : Known) (fresh base : ℕ) (frame : IsFrame f here c S Homes0 Lives0 kinds fresh base) where
  abbrev Homes : (ℕ → Option ArrayId) → Spot → Home → Type 0
  Homes seen = HomesIn here c Homes0 Lives0 seen

  abbrev Lives : Reach → Spot → Type 0
  Lives r = LivesIn here c Homes0 Lives0 r

  -- spots of earlier calls are none of this one
  pub apart_frames : (x : Spot) (h : Home) (i : ℕ) (seen : Option ArrayId) (g : Home) → Homes0 x h → x ≡ spot here.frame i → OwnHome seen (slice_get c.homes i) g → ⊥
  apart_frames x h i seen g a e own = own_given seen (slice_get c.homes i) g (frame.frames x h i a e) own

  pub apart_lives : (x : Spot) (i : ℕ) (seen : Option ArrayId) (g : Home) → Lives0 x → x ≡ spot here.frame i → OwnHome seen (slice_get c.homes i) g → ⊥
  apart_lives x i seen g a e own = own_given seen (slice_get c.homes i) g (frame.lives x i a e) own

  -- nor is it an object that is no parameter
  pub apart_declared : (x : Spot) (h : Home) (i : ℕ) (o : CoreObjectTree) → Homes0 x h → x ≡ spot here.frame i → S.params ≤ i → slice_get S.objects i ≡ Some o → ⊥
  apart_declared x h i o a e le there =
      let q = frame.frames x h i a e in
      elim (frame.own i o there) [
        | inl p ↦ subst IsVariableHome (same_Some (home.Variable p.1) (home.Array q.0) (sym p.2 ∙ q.1)) tt
        | inr p ↦ elim p [
          | inl p ↦ (let lt = p.1 in omega (arith, lt, le))
          | inr p ↦ subst IsLocalHome (same_Some (home.Local p.2) (home.Array q.0) (sym p.3 ∙ q.1)) tt
        ]
      ]

  module _ (r : Reach) (seen : ℕ → Option ArrayId) (st : State) (scene : IsScene f c S Homes0 base r seen st) where
    pub apart_of : IsApart (Homes seen)
    apart_of = record {
      one = λ x h g p q. elim p [
        | inl a ↦ elim q [ inl b ↦ frame.apart.one x h g a b | inr b ↦ absurd (apart_frames x h b.0 (seen b.0) g a b.1 b.2) ]
        | inr a ↦ elim q [
          | inl b ↦ absurd (apart_frames x g a.0 (seen a.0) h b a.1 a.2)
          | inr b ↦ own_one (seen a.0) (slice_get c.homes a.0) h g a.2 (subst (λ i. OwnHome (seen i) (slice_get c.homes i) g) (number_same here.frame b.0 a.0 x b.1 a.1) b.2)
        ]
      ];
      variables = λ x y own own' p q e. elim p [
        | inl a ↦ elim q [
          | inl b ↦ frame.apart.variables x y own own' a b e
          | inr b ↦ absurd (let lt = frame.below x own a in let ge = (frame.own_bounded b.0 own' (own_variable (seen b.0) (slice_get c.homes b.0) own' b.2)).0 in omega (arith, lt, ge, e))
        ]
        | inr a ↦ elim q [
          | inl b ↦ absurd (let lt = frame.below y own' b in let ge = (frame.own_bounded a.0 own (own_variable (seen a.0) (slice_get c.homes a.0) own a.2)).0 in omega (arith, lt, ge, e))
          | inr b ↦ a.1 ∙ ap (spot here.frame) (frame.own_names a.0 b.0 own own' (own_variable (seen a.0) (slice_get c.homes a.0) own a.2) (own_variable (seen b.0) (slice_get c.homes b.0) own' b.2) e) ∙ sym b.1
        ]
      ];
      arrays = λ x y own own' p q e. elim p [
        | inl a ↦ elim q [
          | inl b ↦ frame.apart.arrays x y own own' a b e
          | inr b ↦ absurd (scene.seen_apart x own b.0 own' a (own_array (seen b.0) (slice_get c.homes b.0) own' b.2) e)
        ]
        | inr a ↦ elim q [
          | inl b ↦ absurd (scene.seen_apart y own' a.0 own b (own_array (seen a.0) (slice_get c.homes a.0) own a.2) (sym e))
          | inr b ↦ a.1 ∙ ap (spot here.frame) (scene.seen_own a.0 b.0 own own' (own_array (seen a.0) (slice_get c.homes a.0) own a.2) (own_array (seen b.0) (slice_get c.homes b.0) own' b.2) e) ∙ sym b.1
        ]
      ];
    }

    pub below_of : AreBelow (Homes seen) base
    below_of x own p = elim p [
      | inl a ↦ (let lt = frame.below x own a in let le = frame.low in omega (arith, lt, le))
      | inr a ↦ (frame.own_bounded a.0 own (own_variable (seen a.0) (slice_get c.homes a.0) own a.2)).1
    ]

    pub bounded_of : (s : Scope) (i : ℕ) (own : VarId) → slice_get (homes_in c s) i ≡ Some (home.Variable own) → own.0 < base
    bounded_of scope.File i own e = (let lt = frame.file_bounded i own e in let le = frame.low in omega (arith, lt, le))
    bounded_of scope.Call i own e = (frame.own_bounded i own e).1

    pub names_of : (s s' : Scope) (i j : ℕ) (own own' : VarId) → slice_get (homes_in c s) i ≡ Some (home.Variable own) → slice_get (homes_in c s') j ≡ Some (home.Variable own') → own.0 ≡ own'.0 → (s ≡ s') × (i ≡ j)
    names_of scope.File scope.File i j own own' a b e = (refl, frame.file_names i j own own' a b e)
    names_of scope.Call scope.Call i j own own' a b e = (refl, frame.own_names i j own own' a b e)
    names_of scope.File scope.Call i j own own' a b e = absurd (let lt = frame.file_bounded i own a in let ge = (frame.own_bounded j own' b).0 in omega (arith, lt, ge, e))
    names_of scope.Call scope.File i j own own' a b e = absurd (let lt = frame.file_bounded j own' b in let ge = (frame.own_bounded i own a).0 in omega (arith, lt, ge, e))

    -- what stands for a name, by its scope and number
    abbrev Linked : Scope → ℕ → Home → Type 0
    Linked s i h = (slice_get (homes_in c s) i ≡ Some h) × Homes seen (spot_in here s i) h × Lives r (spot_in here s i)

    own_link : (i : ℕ) (own : VarId) → slice_get c.homes i ≡ Some (home.Variable own) → here.spots i ≡ spot here.frame i → r.Lives i → Linked scope.Call i (home.Variable own)
    own_link i own e there lives = (e, inr (i, there, subst (λ z. OwnHome (seen i) z (home.Variable own)) (sym e) refl), inr (i, there, lives))

    pub variable_of : (s : Scope) (i : ℕ) (k : CType) → VariableIn S r s i k → (own : VarId) × Linked s i (home.Variable own) × (variable_type f own.0 ≡ k)
    variable_of scope.File i k h =
        let a = frame.file i h.0 h.1 in
        elim a.0 [
          | inl p ↦ elim p.1 [
            | inl q ↦ (q.0, (q.1, inl q.2, inl a.1), q.3 ∙ h.3)
            | inr q ↦ absurd (true≢false (sym q.0 ∙ h.4))
          ]
          | inr p ↦ absurd (p.0 h.2)
        ]
    variable_of scope.Call i k h = elim (frame.own i h.0 h.1) [
      | inl p ↦ (p.1, own_link i p.1 p.2 p.4 h.4, p.3 ∙ h.3)
      | inr p ↦ elim p [ inl q ↦ absurd (q.0 h.2) | inr q ↦ absurd (q.0 h.2) ]
    ]

    pub scalar_of : (s : Scope) (i : ℕ) (k : CType) → ScalarIn S r s i k
        → ((own : VarId) × Linked s i (home.Variable own) × (variable_type f own.0 ≡ k)) ⊎ ((word : ℕ) × Linked s i (home.Constant word) × (kinds.types (spot_in here s i) ≡ k) × IsNumber k (number_of k word))
    scalar_of scope.File i k h =
        let a = frame.file i h.0 h.1 in
        elim a.0 [
          | inl p ↦ elim p.1 [
            | inl q ↦ inl (q.0, (q.1, inl q.2, inl a.1), q.3 ∙ h.3)
            | inr q ↦ inr (q.1, (q.2, inl q.3, inl a.1), q.4 ∙ h.3, subst (λ z. IsNumber z (number_of z q.1)) h.3 q.5)
          ]
          | inr p ↦ absurd (p.0 h.2)
        ]
    scalar_of scope.Call i k h = inl (variable_of scope.Call i k h)

    pub array_of : (s : Scope) (i : ℕ) (k : CType) → ArrayIn S r s i k → (a : ArrayId) × Homes seen (spot_in here s i) (home.Array a) × Lives r (spot_in here s i) × IsArrayAt seen s i (slice_get (homes_in c s) i) a × (kind_at f.arrays a.0 ≡ k)
    array_of scope.File i k h =
        let a = frame.file i h.0 h.1 in
        elim a.0 [
          | inl p ↦ absurd (h.2 p.0)
          | inr p ↦ (p.1, inl p.3, inl a.1, subst (λ z. IsArrayAt seen scope.File i z p.1) (sym p.2) refl, p.4 ∙ h.3)
        ]
    array_of scope.Call i k h = elim (frame.own i h.0 h.1) [
      | inl p ↦ absurd (h.2 p.0)
      | inr p ↦ elim p [
        | inl q ↦ (q.2, inl q.4, inl q.5, subst (λ z. IsArrayAt seen scope.Call i z q.2) (sym q.3) refl, q.6 ∙ h.3)
        | inr q ↦ elim h.4 [
          | inl lt ↦ absurd (let ge = q.1 in omega (arith, lt, ge))
          | inr w ↦
              let there = frame.spots i q.1 in
              let a = scene.ready i q.2 q.3 w.2 in
              (a.0, inr (i, there, subst (λ z. OwnHome (seen i) z (home.Array a.0)) (sym q.3) (ap (λ z. local_home z q.2) (sym a.1))), inr (i, there, w.1), subst (λ z. IsArrayAt seen scope.Call i z a.0) (sym q.3) a.1, (scene.seen_fits i a.0 h.0 a.1 h.1).0 ∙ h.3)
        ]
      ]
    ]

    noted_of : (s : Scope) (i : ℕ) (slot : Slot) (a : ArrayId) → slice_get (homes_in c s) i ≡ Some (home.Local slot) → seen_in seen s i ≡ Some a → slice_get st.slots slot.0 ≡ Some (Some a)
    noted_of scope.File i slot a e z = absurd (frame.file_slots i slot e)
    noted_of scope.Call i slot a e z = scene.noted i slot a e z

    -- What is known of the objects where the text is.
    abbrev pub world_of : IsWorld f here c (objects_in S r) (Homes seen) (Lives r) kinds base
    world_of = record {
      seen = seen_cell seen;
      array_base = length st.arrays;
      path = frame.path;
      apart = apart_of;
      below = below_of;
      file = le_trans frame.file_low frame.low;
      bounded = λ x own e. bounded_of x.scope x.number own e;
      scalars = λ x k h. scalar_of x.scope x.number k h;
      variables = λ x k h. variable_of x.scope x.number k h;
      arrays = λ x k h. (let q = array_of x.scope x.number k h in (q.0, q.1, q.2, array_named seen x (home_of c x) q.0 q.3, q.4));
      names = λ x y own own' a b e. (let q = names_of x.scope y.scope x.number y.number own own' a b e in cell_same x y q.0 q.1);
    }

    pub over_of : IsOver c base (length st.arrays) (seen_cell seen) st
    over_of = record { low = scene.low; arrays = le_refl (length st.arrays); noted = λ x slot a e z. noted_of x.scope x.number slot a e z }
