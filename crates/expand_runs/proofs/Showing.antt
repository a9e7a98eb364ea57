-- What stands for objects behind writes.
use Rattle.std.proofs.Common.{◌≡◌, ◌≢◌, ◌⊎◌, ◌&&◌, ◌==◌, ℕ, zero, suc, ◌<◌, ◌∙◌, sym, refl, ap, ap₂, subst, inl, inr, Bool, true, false, if◌then◌else◌, ℤ, List, [], ◌∷◌, Option, Some, slice_get, slice_set, length, arith}
use Rattle.std.proofs.lemmas.Option.{same_Some, none-some}
use Rattle.std.proofs.lemmas.Bool.{eq-eqb}
use Rattle.std.proofs.lemmas.Bool.Decides.{eqb_tells}
use Rattle.hls_base.specs.declared.number.VarId.{VarId}
use Rattle.hls_base.specs.declared.number.ArrayId.{ArrayId}
use Rattle.c_token.specs.declared.ctype.CType.{CType}
use Rattle.c_meaning.specs.Store.{Object, element_in, with_element}
use Rattle.piece_making.specs.declared.frame.Home.{Home}
use Rattle.piece_making.specs.declared.frame.Home.TheVariants as home
use Rattle.c_meaning.specs.CoreRuns.Cells.{Spot, spot, is_spot, Cells, put}
use Rattle.c_meaning.specs.CoreRuns.Expressions.{written}
use Rattle.c_meaning.specs.PieceRuns.Values as piece
use Rattle.c_meaning.specs.PieceRuns.Values.{Store, with_variable, with_number, with_row}
use Rattle.c_meaning.specs.PieceRuns.Pieces.{Frame}
use Rattle.expand_runs.specs.Showing.{Stands, IsShown, IsApart, AreBelow, IsWhole, Known}
use Rattle.expand_runs.proofs.Typing.{number_here, number_other}
use Rattle.pieces.specs.Resolved.Core.{CoreObjectTree}

-- ---- one spot

same_spot : (x : Spot) → is_spot x x ≡ true
same_spot x = ap₂ ◌&&◌ (eq-eqb x.frame x.frame refl) (eq-eqb x.number x.number refl)

pub put_here : (t : Cells) (x : Spot) (o : Object) → put t x o x ≡ o
put_here t x o = ap (λ b. if b then o else t x) (same_spot x)

no_spot : (a b : Bool) → (a ≡ false) ⊎ (b ≡ false) → a && b ≡ false
no_spot true true h = elim h [ inl e ↦ e | inr e ↦ e ]
no_spot true false h = refl
no_spot false b h = refl

pub spot_tells : (x y : Spot) → (x ≡ y) ⊎ (x ≢ y)
spot_tells x y =
    elim (eqb_tells x.frame y.frame) [
      | inr e ↦ inr (λ p. e.1 (ap (λ (z : Spot). z.frame) p))
      | inl e ↦ elim (eqb_tells x.number y.number) [ inr f ↦ inr (λ p. f.1 (ap (λ (z : Spot). z.number) p)) | inl f ↦ inl (ap₂ spot e.1 f.1) ]
    ]

pub put_other : (t : Cells) (x y : Spot) (o : Object) → x ≢ y → put t x o y ≡ t y
put_other t x y o h =
    ap (λ b. if b then o else t y) (no_spot (x.frame == y.frame) (x.number == y.number)
    (elim (eqb_tells x.frame y.frame) [
      | inr e ↦ inl e.0
      | inl e ↦ elim (eqb_tells x.number y.number) [ inr f ↦ inr f.0 | inl f ↦ absurd (h (ap₂ spot e.1 f.1)) ]
    ]))

-- ---- one element

set_here : (xs : List (Option ℤ)) (i : ℕ) (v w : ℤ) → element_in (slice_get (slice_set xs i (Some v)) i) ≡ Some w → v ≡ w
set_here [] i v w e = absurd (none-some w e)
set_here (x ∷ xs) zero v w e = same_Some v w e
set_here (x ∷ xs) (suc i) v w e = set_here xs i v w e

set_there : (xs : List (Option ℤ)) (i j : ℕ) (y : Option ℤ) → i ≢ j → slice_get (slice_set xs i y) j ≡ slice_get xs j
set_there [] i j y ne = refl
set_there (x ∷ xs) zero zero y ne = absurd (ne refl)
set_there (x ∷ xs) zero (suc j) y ne = refl
set_there (x ∷ xs) (suc i) zero y ne = refl
set_there (x ∷ xs) (suc i) (suc j) y ne = set_there xs i j y (λ e. ne (ap suc e))

set_length : (xs : List (Option ℤ)) (i : ℕ) (y : Option ℤ) → length (slice_set xs i y) ≡ length xs
set_length [] i y = refl
set_length (x ∷ xs) zero y = refl
set_length (x ∷ xs) (suc i) y = ap suc (set_length xs i y)

set_found : (xs : List (Option ℤ)) (i : ℕ) (y : Option ℤ) → i < length xs → slice_get (slice_set xs i y) i ≡ Some y
set_found [] i y lt = absurd (omega (arith, lt))
set_found (x ∷ xs) zero y lt = refl
set_found (x ∷ xs) (suc i) y lt = set_found xs i y (omega (arith, lt))

whole_set : (o : Object) (i : ℕ) (v : ℤ) → IsWhole o → IsWhole (with_element i v o)
whole_set o i v h = record {
  long = set_length o.elements i (Some v) ∙ h.long;
  all = λ j lt. (
      let lt' : j < length o.elements = (let e = set_length o.elements i (Some v) in omega (arith, lt, e)) in
      elim (eqb_tells i j) [
        | inl e ↦ (v, subst (λ z. slice_get (slice_set o.elements i (Some v)) z ≡ Some (Some v)) e.1 (set_found o.elements i (Some v) (let q = e.1 in omega (arith, lt', q))))
        | inr e ↦ (let w = h.all j lt' in (w.0, set_there o.elements i j (Some v) e.1 ∙ w.1))
      ]
      );
}

-- ---- variables and elements that hold the same

pub row_here : (g : ℕ → ℕ → ℤ) (a i : ℕ) (v : ℤ) → with_row g a i v a i ≡ v
row_here g a i v = ap (λ b. (if b then with_number (g a) i v else g a) i) (eq-eqb a a refl) ∙ number_here (g a) i v

pub row_beside : (g : ℕ → ℕ → ℤ) (a i j : ℕ) (v : ℤ) → i ≢ j → with_row g a i v a j ≡ g a j
row_beside g a i j v ne = ap (λ b. (if b then with_number (g a) i v else g a) j) (eq-eqb a a refl) ∙ number_other (g a) i j v ne

pub row_other : (g : ℕ → ℕ → ℤ) (a i b j : ℕ) (v : ℤ) → a ≢ b → with_row g a i v b j ≡ g b j
row_other g a i b j v ne = elim (eqb_tells a b) [
  | inl e ↦ absurd (ne e.1)
  | inr e ↦ ap (λ z. (if z then with_number (g b) i v else g b) j) e.0
]

-- Something stands for an object still where the store holds the same in its place.
stands_still : (f : Frame) (h : Home) (o : Object) (t t' : Store) → ((own : VarId) → h ≡ home.Variable own → t'.variables own.0 ≡ t.variables own.0) → ((a : ArrayId) → h ≡ home.Array a → (i : ℕ) → t'.elements a.0 i ≡ t.elements a.0 i)
    → Stands f h o t → Stands f h o t'
stands_still f (home.Variable own) o t t' same elements q = (q.0, q.1, λ v e. same own refl ∙ q.2 v e)
stands_still f (home.Array a) o t t' same elements q = (q.0, q.1, λ i v e. elements a refl i ∙ q.2 i v e)
stands_still f (home.Constant word) o t t' same elements q = q
stands_still f (home.Local slot) o t t' same elements q = q

module _ (f : Frame) (Homes : Spot → Home → Type 0) (Lives : Spot → Type 0) (known : Known) where
  kind_kept : (s : Cells) (x y : Spot) (i : ℕ) (v : ℤ) (k : CType) → (s y).kind ≡ k → (written x i v s y).kind ≡ k
  kind_kept s x y i v k h = elim (spot_tells x y) [
    | inl e ↦ ap (λ z. (written x i v s z).kind) (sym e) ∙ ap (λ (o : Object). o.kind) (put_here s x (with_element i v (s x))) ∙ ap (λ z. (s z).kind) e ∙ h
    | inr ne ↦ ap (λ (o : Object). o.kind) (put_other s x y (with_element i v (s x)) ne) ∙ h
  ]

  whole_kept : (s : Cells) (x y : Spot) (i : ℕ) (v : ℤ) → IsWhole (s y) → IsWhole (written x i v s y)
  whole_kept s x y i v h = elim (spot_tells x y) [
    | inl e ↦ subst IsWhole (sym (put_here s x (with_element i v (s x))) ∙ ap (written x i v s) e) (whole_set (s x) i v (subst (λ z. IsWhole (s z)) (sym e) h))
    | inr ne ↦ subst IsWhole (sym (put_other s x y (with_element i v (s x)) ne)) h
  ]

  fits_kept : (s : Cells) (x y : Spot) (i : ℕ) (v : ℤ) (o : CoreObjectTree) → ((s y).kind ≡ o.kind) × ((s y).lengths ≡ o.lengths) → ((written x i v s y).kind ≡ o.kind) × ((written x i v s y).lengths ≡ o.lengths)
  fits_kept s x y i v o h = elim (spot_tells x y) [
    | inl e ↦
        let same : written x i v s y ≡ with_element i v (s y) = ap (written x i v s) (sym e) ∙ put_here s x (with_element i v (s x)) ∙ ap (λ z. with_element i v (s z)) e in
        (ap (λ (z : Object). z.kind) same ∙ h.0, ap (λ (z : Object). z.lengths) same ∙ h.1)
    | inr ne ↦
        let same : written x i v s y ≡ s y = put_other s x y (with_element i v (s x)) ne in
        (ap (λ (z : Object). z.kind) same ∙ h.0, ap (λ (z : Object). z.lengths) same ∙ h.1)
  ]

  -- Variables that stand for no object may hold anything.
  pub shown_apart : (low : ℕ) (s : Cells) (t t' : Store) → AreBelow Homes low → ((i : ℕ) → i < low → t'.variables i ≡ t.variables i) → ((a i : ℕ) → t'.elements a i ≡ t.elements a i) → IsShown f Homes Lives known s t → IsShown f Homes Lives known s t'
  shown_apart low s t t' below variables elements h = record {
    objects = λ x g is lives. stands_still f g (s x) t t' (λ own e. variables own.0 (below x own (subst (Homes x) e is))) (λ a e i. elements a.0 i) (h.objects x g is lives);
    kinds = h.kinds;
    whole = h.whole;
    fits = h.fits;
  }

  -- A scalar is written in both.
  pub shown_set : (s : Cells) (t : Store) (x : Spot) (own : VarId) (v : ℤ) → IsApart Homes → Homes x (home.Variable own) → Lives x → IsShown f Homes Lives known s t → IsShown f Homes Lives known (written x 0 v s) (with_variable own.0 v t)
  shown_set s t x own v apart is lives h = record {
    kinds = λ y word const l. kind_kept s x y 0 v (known.types y) (h.kinds y word const l);
    whole = λ y w. whole_kept s x y 0 v (h.whole y w);
    fits = λ y o d l. fits_kept s x y 0 v o (h.fits y o d l);
    objects = λ y g at lives'. elim (spot_tells x y) [
      | inl e ↦
          let same : home.Variable own ≡ g = apart.one x (home.Variable own) g is (subst (λ z. Homes z g) (sym e) at) in
          let q = h.objects x (home.Variable own) is lives in
          let here : Stands f (home.Variable own) (with_element 0 v (s x)) (with_variable own.0 v t) = (q.0, q.1, λ w z. number_here t.variables own.0 v ∙ set_here (s x).elements 0 v w z) in
          subst (λ z. Stands f z (written x 0 v s y) (with_variable own.0 v t)) same
          (subst (λ z. Stands f (home.Variable own) z (with_variable own.0 v t)) (sym (put_here s x (with_element 0 v (s x))) ∙ ap (written x 0 v s) e) here)
      | inr ne ↦
          subst (λ z. Stands f g z (with_variable own.0 v t)) (sym (put_other s x y (with_element 0 v (s x)) ne))
          (stands_still f g (s y) t (with_variable own.0 v t) (λ own' e. number_other t.variables own.0 own'.0 v (λ z. ne (apart.variables x y own own' is (subst (Homes y) e at) z))) (λ a e i. refl) (h.objects y g at lives'))
    ];
  }

  -- An element is written in both.
  pub shown_put : (s : Cells) (t : Store) (x : Spot) (a : ArrayId) (i : ℕ) (v : ℤ) → IsApart Homes → Homes x (home.Array a) → Lives x → IsShown f Homes Lives known s t → IsShown f Homes Lives known (written x i v s) (piece.with_element a.0 i v t)
  shown_put s t x a i v apart is lives h = record {
    kinds = λ y word const l. kind_kept s x y i v (known.types y) (h.kinds y word const l);
    whole = λ y w. whole_kept s x y i v (h.whole y w);
    fits = λ y o d l. fits_kept s x y i v o (h.fits y o d l);
    objects = λ y g at lives'. elim (spot_tells x y) [
      | inl e ↦
          let same : home.Array a ≡ g = apart.one x (home.Array a) g is (subst (λ z. Homes z g) (sym e) at) in
          let q = h.objects x (home.Array a) is lives in
          let here : Stands f (home.Array a) (with_element i v (s x)) (piece.with_element a.0 i v t) = (
            q.0,
            q.1,
            λ j w z. elim (eqb_tells i j) [
              | inl ij ↦ subst (λ m. with_row t.elements a.0 i v a.0 m ≡ v) ij.1 (row_here t.elements a.0 i v) ∙ set_here (s x).elements i v w (ap (λ m. element_in (slice_get (slice_set (s x).elements i (Some v)) m)) ij.1 ∙ z)
              | inr ij ↦ row_beside t.elements a.0 i j v ij.1 ∙ q.2 j w (sym (ap element_in (set_there (s x).elements i j (Some v) ij.1)) ∙ z)
            ],
          ) in
          subst (λ z. Stands f z (written x i v s y) (piece.with_element a.0 i v t)) same
          (subst (λ z. Stands f (home.Array a) z (piece.with_element a.0 i v t)) (sym (put_here s x (with_element i v (s x))) ∙ ap (written x i v s) e) here)
      | inr ne ↦
          subst (λ z. Stands f g z (piece.with_element a.0 i v t)) (sym (put_other s x y (with_element i v (s x)) ne))
          (stands_still f g (s y) t (piece.with_element a.0 i v t) (λ own' e. refl) (λ b e j. row_other t.elements a.0 i b.0 j v (λ z. ne (apart.arrays x y a b is (subst (Homes y) e at) z))) (h.objects y g at lives'))
    ];
  }
