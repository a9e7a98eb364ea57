-- Registers that are shared: more of them, and one value more.
use Rattle.std.proofs.Common.{◌≡◌, ℕ, zero, suc, ◌+◌, ◌<◌, ◌≤◌, List, [], ◌∷◌, ◌++◌, length, slice_index, Option, inl, inr, refl, sym, ap, subst, ◌∙◌, arith}
use Rattle.std.proofs.lemmas.Bool.{cases_eq}
use Rattle.std.proofs.lemmas.List.{length-append}
use Rattle.reg_binding.specs.declared.life.Life.{Life}
use Rattle.reg_binding.specs.Sharing.{Meet, life_at, IsShared}

pub before : (xs ys : List ℕ) (i : ℕ) → i < length xs → slice_index (xs ++ ys) i ≡ slice_index xs i
before [] ys i l = absurd (omega arith)
before (x ∷ xs) ys zero l = refl
before (x ∷ xs) ys (suc i) l = before xs ys i (omega arith)

pub behind : (xs : List ℕ) (y n : ℕ) → n ≡ length xs → slice_index (xs ++ y ∷ []) n ≡ y
behind [] y zero e = refl
behind [] y (suc n) e = absurd (omega arith)
behind (x ∷ xs) y zero e = absurd (omega arith)
behind (x ∷ xs) y (suc n) e = behind xs y n (omega arith)

-- ---- registers that hold some value

pub used_same : (choices : List ℕ) (r n low high : ℕ) → length choices ≡ n → ((k : ℕ) → low ≤ k → k < high → (i : ℕ) × (i < n) × (slice_index choices i ≡ k))
    → (k : ℕ) → low ≤ k → k < high → (i : ℕ) × (i < n + 1) × (slice_index (choices ++ r ∷ []) i ≡ k)
used_same choices r n low high count used k l lt =
    let found = used k l lt in
    (found.0, omega (arith, found.1), before choices (r ∷ []) found.0 (omega (arith, found.1, count)) ∙ found.2)

pub used_more : (choices : List ℕ) (r n low high : ℕ) → length choices ≡ n → r ≡ high → ((k : ℕ) → low ≤ k → k < high → (i : ℕ) × (i < n) × (slice_index choices i ≡ k))
    → (k : ℕ) → low ≤ k → k < high + 1 → (i : ℕ) × (i < n + 1) × (slice_index (choices ++ r ∷ []) i ≡ k)
used_more choices r n low high count is_new used k l lt = elim (cases_eq k high) [
  | inl e ↦ (n, omega arith, behind choices r n (sym count) ∙ is_new ∙ sym e)
  | inr ne ↦ used_same choices r n low high count used k l (omega arith)
]

-- ---- more registers, and one value more

pub IsShared-grown : (period : Option ℕ) (lives : List Life) (n : ℕ) (widths choices more : List ℕ) → IsShared period lives n widths choices
    → IsShared period lives n (widths ++ more) choices
IsShared-grown period lives n widths choices more s = record {
  count = s.count;
  inside = λ i l. omega (arith, s.inside i l, length-append widths more);
  fits = λ i l. before widths more (slice_index choices i) (s.inside i l) ∙ s.fits i l;
  apart = s.apart;
  lowest = λ j k l k_lt same. s.lowest j k l k_lt (sym (before widths more k (omega (arith, s.inside j l))) ∙ same);
}

module _ (period : Option ℕ) (lives : List Life) (n : ℕ) (widths choices more : List ℕ) (r : ℕ)
    (s : IsShared period lives n widths choices) (r_in : r < length (widths ++ more)) (fit : slice_index (widths ++ more) r ≡ (life_at lives n).width)
    (free : (i : ℕ) → i < n → slice_index choices i ≡ r → Meet period (life_at lives i) (life_at lives n) → ⊥)
    (low : (k : ℕ) → k < r → slice_index (widths ++ more) k ≡ (life_at lives n).width → (i : ℕ) × (i < n) × (slice_index choices i ≡ k) × Meet period (life_at lives i) (life_at lives n)) where
  long : length (widths ++ more) ≡ length widths + length more
  long = length-append widths more

  at_new : (i : ℕ) → i ≡ n → slice_index (choices ++ r ∷ []) i ≡ r
  at_new i e = ap (slice_index (choices ++ r ∷ [])) e ∙ behind choices r n (sym s.count)

  at_old : (i : ℕ) → i < n → slice_index (choices ++ r ∷ []) i ≡ slice_index choices i
  at_old i l = before choices (r ∷ []) i (omega (arith, s.count))

  pub IsShared-more : IsShared period lives (n + 1) (widths ++ more) (choices ++ r ∷ [])
  IsShared-more = record {
    count = omega (arith, length-append choices (r ∷ []), s.count);
    inside = λ i l. elim (cases_eq i n) [
      | inl e ↦ omega (arith, at_new i e, r_in)
      | inr ne ↦ omega (arith, at_old i (omega arith), s.inside i (omega arith), long)
    ];
    fits = λ i l. elim (cases_eq i n) [
      | inl e ↦ ap (slice_index (widths ++ more)) (at_new i e) ∙ fit ∙ ap (λ m. (life_at lives m).width) (sym e)
      | inr ne ↦ ap (slice_index (widths ++ more)) (at_old i (omega arith)) ∙ before widths more (slice_index choices i) (s.inside i (omega arith)) ∙ s.fits i (omega arith)
    ];
    apart = λ i j i_lt l same. elim (cases_eq j n) [
      | inl e ↦ λ meet. free i (omega arith) (sym (at_old i (omega arith)) ∙ same ∙ at_new j e) (subst (λ m. Meet period (life_at lives i) (life_at lives m)) e meet)
      | inr ne ↦ s.apart i j i_lt (omega arith) (sym (at_old i (omega arith)) ∙ same ∙ at_old j (omega arith))
    ];
    lowest = λ j k l k_lt same. elim (cases_eq j n) [
      | inl e ↦
          let found = low k (omega (arith, at_new j e)) (same ∙ ap (λ m. (life_at lives m).width) e) in
          (found.0, omega (arith, found.1), at_old found.0 found.1 ∙ found.2, subst (λ m. Meet period (life_at lives found.0) (life_at lives m)) (sym e) found.3)
      | inr ne ↦
          let old = at_old j (omega arith) in
          let within = s.inside j (omega arith) in
          let found = s.lowest j k (omega arith) (omega (arith, old)) (sym (before widths more k (omega (arith, old, within))) ∙ same) in
          (found.0, found.1, at_old found.0 (omega (arith, found.1)) ∙ found.2, found.3)
    ];
  }
