-- How many of the first numbers pass a test.
use Rattle.std.proofs.Common.{◌≡◌, ℕ, zero, suc, ◌+◌, ◌<◌, ◌≤◌, ◌⊎◌, inl, inr, ◌∙◌, sym, refl, ap, subst, Bool, true, false, true≢false, arith, if◌then◌else◌}
use Rattle.std.proofs.lemmas.Bool.Decides.{eqb_tells}

abbrev one_if : Bool → ℕ
one_if b = if b then 1 else 0

abbrev pub count : (ℕ → Bool) → ℕ → ℕ
count p zero = 0
count p (suc n) = one_if (p n) + count p n

pub count_low : (p : ℕ → Bool) (n : ℕ) → count p n ≤ n
count_low p zero = omega arith
count_low p (suc n) = by (p n) (count_low p n)
  where
    by : (b : Bool) → count p n ≤ n → one_if b + count p n ≤ suc n
    by true le = omega (arith, le)
    by false le = omega (arith, le)

-- what passes one test passes the other
abbrev pub Implies : (ℕ → Bool) → (ℕ → Bool) → ℕ → Type 0
Implies p q n = (i : ℕ) → i < n → p i ≡ true → q i ≡ true

implies_fewer : (p q : ℕ → Bool) (n : ℕ) → Implies p q (suc n) → Implies p q n
implies_fewer p q n h i lt e = h i (omega (arith, lt)) e

one_more : (a b : Bool) → (a ≡ true → b ≡ true) → one_if a ≤ one_if b
one_more true b h = subst (λ c. 1 ≤ one_if c) (sym (h refl)) (omega arith)
one_more false b h = omega arith

pub count_more : (p q : ℕ → Bool) (n : ℕ) → Implies p q n → count p n ≤ count q n
count_more p q zero h = omega arith
count_more p q (suc n) h =
    let first = one_more (p n) (q n) (h n (omega arith)) in
    let rest = count_more p q n (implies_fewer p q n h) in
    omega (arith, first, rest)

pub count_less : (p q : ℕ → Bool) (n k : ℕ) → Implies p q n → k < n → q k ≡ true → p k ≡ false → count p n < count q n
count_less p q zero k h lt yes_ no_ = absurd (omega (arith, lt))
count_less p q (suc n) k h lt yes_ no_ = elim (eqb_tells k n) [
  | inl e ↦
      let new : q n ≡ true = subst (λ i. q i ≡ true) e.1 yes_ in
      let old : p n ≡ false = subst (λ i. p i ≡ false) e.1 no_ in
      let a : one_if (q n) ≡ 1 = ap one_if new in
      let b : one_if (p n) ≡ 0 = ap one_if old in
      let rest = count_more p q n (implies_fewer p q n h) in
      omega (arith, a, b, rest)
  | inr e ↦
      let first = one_more (p n) (q n) (h n (omega arith)) in
      let apart = e.1 in
      let rest = count_less p q n k (implies_fewer p q n h) (omega (arith, lt, apart)) yes_ no_ in
      omega (arith, first, rest)
]

-- a number that passes the second test alone, if there is one
pub search : (p q : ℕ → Bool) (n : ℕ) → Implies q p n ⊎ ((k : ℕ) × (k < n) × (q k ≡ true) × (p k ≡ false))
search p q zero = inl (λ i lt e. absurd (omega (arith, lt)))
search p q (suc n) = elim (search p q n) [ inl h ↦ by h (p n) (q n) refl refl | inr r ↦ inr (r.0, omega (arith, r.1), r.2, r.3) ]
  where
    at_last : Implies q p n → (q n ≡ true → p n ≡ true) → Implies q p (suc n)
    at_last h last i lt e = elim (eqb_tells i n) [
      | inl s ↦ subst (λ j. p j ≡ true) (sym s.1) (last (subst (λ j. q j ≡ true) s.1 e))
      | inr s ↦ let apart = s.1 in h i (omega (arith, lt, apart)) e
    ]

    by : Implies q p n → (a b : Bool) → p n ≡ a → q n ≡ b → Implies q p (suc n) ⊎ ((k : ℕ) × (k < suc n) × (q k ≡ true) × (p k ≡ false))
    by h true b e f = inl (at_last h (λ g. e))
    by h false true e f = inr (n, omega arith, f, e)
    by h false false e f = inl (at_last h (λ g. absurd (true≢false (sym g ∙ f))))
