-- One bit of words set or cleared, and words joined with others.
use Rattle.std.proofs.Common.{◌≡◌, ℕ, ◌+◌, ◌-◌, ◌*◌, ◌/◌, ◌%◌, ◌^◌, ◌<◌, ◌≤◌, Bool, true, false, not, ◌&&◌, ◌||◌, ◌==◌, List, length, get_or, set, max, below_more, ◌≢◌, ◌⊎◌, inl, inr, w64, refl, sym, ap, ◌∙◌, arith}
use Rattle.std.specs.Prelude.{bit_and, bit_or, nat_lt, replicate}
use Rattle.std.specs.Int.{bit_at}
use Rattle.std.proofs.lemmas.Bool.{cases_eq, eq-eqb, ne_eqb, lt-ltb}
use Rattle.std.proofs.lemmas.List.{get_or-set_same, get_or-set_other, get_or_past, get_or-replicate}
use Rattle.std.proofs.lemmas.Nat.Bits.{bit_at_set_same, bit_at_set_other, bit_at_clear_same, bit_at_clear_other, bit_at_or, bit_at-lt, bit_at-zero}
use Rattle.std.proofs.lemmas.Nat.{or_comm}
use Rattle.reg_binding.specs.Sets.{has_bit}
use Rattle.reg_binding.proofs.LiveVariables.Members.{or_nothing, and_all}

and_nothing : (x : Bool) → (x && false) ≡ false
and_nothing true = refl
and_nothing false = refl

or_all : (x : Bool) → (x || true) ≡ true
or_all true = refl
or_all false = refl

-- the bits of one word of a list are changed
bit_same : (words : List ℕ) (k n w : ℕ) → k / 64 < length words → n / 64 ≡ k / 64 → has_bit (set words (k / 64) w) n ≡ (bit_at w (n % 64) == 1)
bit_same words k n w l e = ap (λ x. bit_at x (n % 64) == 1) (ap (λ i. get_or (set words (k / 64) w) i 0) e ∙ get_or-set_same words (k / 64) w 0 l)

bit_other : (words : List ℕ) (k n w : ℕ) → (n / 64 ≡ k / 64 → ⊥) → has_bit (set words (k / 64) w) n ≡ has_bit words n
bit_other words k n w ne = ap (λ x. bit_at x (n % 64) == 1) (get_or-set_other words (k / 64) (n / 64) w 0 ne)

pub set_has : (words : List ℕ) (k n w : ℕ) → k / 64 < length words → w ≡ bit_or (get_or words (k / 64) 0) (1 * 2 ^ (k % 64) % 18446744073709551616) →
    has_bit (set words (k / 64) w) n ≡ (has_bit words n || (k == n))
set_has words k n w l is = elim (cases_eq k n) [
  | inl e ↦
      let bit : bit_at w (n % 64) ≡ 1 = ap (λ x. bit_at x (n % 64)) is ∙ ap (λ m. bit_at (bit_or (get_or words (k / 64) 0) (1 * 2 ^ (k % 64) % 18446744073709551616)) (m % 64)) (sym e) ∙ bit_at_set_same w64 (get_or words (k / 64) 0) (k % 64) (omega arith) in
      bit_same words k n w l (ap (λ m. m / 64) (sym e)) ∙ ap (λ b. b == 1) bit ∙ sym (or_all (has_bit words n)) ∙ ap (λ t. has_bit words n || t) (sym (eq-eqb k n e))
  | inr ne ↦
      let rest : has_bit words n ≡ (has_bit words n || (k == n)) = or_nothing (has_bit words n) ∙ ap (λ t. has_bit words n || t) (sym (ne_eqb k n ne)) in
      elim (cases_eq (n / 64) (k / 64)) [
        | inl same ↦
            let apart : n % 64 ≡ k % 64 → ⊥ = λ e. ne (omega arith) in
            bit_same words k n w l same ∙ ap (λ x. bit_at x (n % 64) == 1) is
            ∙ ap (λ b. b == 1) (bit_at_set_other w64 (get_or words (k / 64) 0) (k % 64) (omega arith) (n % 64) apart)
            ∙ ap (λ i. bit_at (get_or words i 0) (n % 64) == 1) (sym same) ∙ rest
        | inr other ↦ bit_other words k n w other ∙ rest
      ]
]

pub clear_has : (words : List ℕ) (k n w : ℕ) → k / 64 < length words → w ≡ bit_and (get_or words (k / 64) 0) (18446744073709551615 - 1 * 2 ^ (k % 64) % 18446744073709551616) →
    has_bit (set words (k / 64) w) n ≡ (has_bit words n && not (k == n))
clear_has words k n w l is = elim (cases_eq k n) [
  | inl e ↦
      let bit : bit_at w (n % 64) ≡ 0 = ap (λ x. bit_at x (n % 64)) is ∙ ap (λ m. bit_at (bit_and (get_or words (k / 64) 0) (18446744073709551615 - 1 * 2 ^ (k % 64) % 18446744073709551616)) (m % 64)) (sym e) ∙ bit_at_clear_same w64 (get_or words (k / 64) 0) (k % 64) (omega arith) in
      bit_same words k n w l (ap (λ m. m / 64) (sym e)) ∙ ap (λ b. b == 1) bit ∙ sym (and_nothing (has_bit words n)) ∙ ap (λ t. has_bit words n && not t) (sym (eq-eqb k n e))
  | inr ne ↦
      let rest : has_bit words n ≡ (has_bit words n && not (k == n)) = and_all (has_bit words n) ∙ ap (λ t. has_bit words n && not t) (sym (ne_eqb k n ne)) in
      elim (cases_eq (n / 64) (k / 64)) [
        | inl same ↦
            let apart : n % 64 ≡ k % 64 → ⊥ = λ e. ne (omega arith) in
            bit_same words k n w l same ∙ ap (λ x. bit_at x (n % 64) == 1) is
            ∙ ap (λ b. b == 1) (bit_at_clear_other w64 (get_or words (k / 64) 0) (k % 64) (omega arith) (n % 64) (omega arith) apart)
            ∙ ap (λ i. bit_at (get_or words i 0) (n % 64) == 1) (sym same) ∙ rest
        | inr other ↦ bit_other words k n w other ∙ rest
      ]
]

one_or_none : (a : ℕ) → a < 2 → (a ≡ 0) ⊎ (a ≡ 1)
one_or_none a l = elim (cases_eq a 0) [ inl e ↦ inl e | inr ne ↦ inr (omega arith) ]

larger : (a b : ℕ) → a < 2 → b < 2 → (max a b == 1) ≡ ((a == 1) || (b == 1))
larger a b l m = elim (one_or_none a l) [
  | inl e ↦ elim (one_or_none b m) [ inl f ↦ rw (e, f) refl | inr f ↦ rw (e, f) refl ]
  | inr e ↦ elim (one_or_none b m) [ inl f ↦ rw (e, f) refl | inr f ↦ rw (e, f) refl ]
]

pub or_has : (xs ys zs : List ℕ) (n : ℕ) → get_or zs (n / 64) 0 ≡ bit_or (get_or xs (n / 64) 0) (get_or ys (n / 64) 0) → has_bit zs n ≡ (has_bit xs n || has_bit ys n)
or_has xs ys zs n e =
    let a = get_or xs (n / 64) 0 in let b = get_or ys (n / 64) 0 in let i = n % 64 in
    ap (λ x. bit_at x i == 1) e ∙ ap (λ x. x == 1) (bit_at_or a b i) ∙ larger (bit_at a i) (bit_at b i) (bit_at-lt a i) (bit_at-lt b i)

-- ---- words joined one after another

module _ (start others xs : List ℕ) (i : ℕ) (inside : i < length xs) where
  -- the word at i takes the bits of the other one, and the rest stays
  pub joined_more : (zs : List ℕ) → get_or zs i 0 ≡ bit_or (get_or xs i 0) (get_or others i 0) → ((k : ℕ) → k ≢ i → get_or zs k 0 ≡ get_or xs k 0) →
      ((k : ℕ) → k < i → get_or xs k 0 ≡ bit_or (get_or start k 0) (get_or others k 0)) → ((k : ℕ) → i ≤ k → get_or xs k 0 ≡ get_or start k 0) →
      (k : ℕ) → k < i + 1 → get_or zs k 0 ≡ bit_or (get_or start k 0) (get_or others k 0)
  joined_more zs here rest added left = below_more (λ k. get_or zs k 0 ≡ bit_or (get_or start k 0) (get_or others k 0)) i
      (λ k l. rest k (λ (e : k ≡ i). omega arith) ∙ added k l) (here ∙ ap (λ x. bit_or x (get_or others i 0)) (left i (omega arith)))

  pub joined_left : (zs : List ℕ) → ((k : ℕ) → k ≢ i → get_or zs k 0 ≡ get_or xs k 0) → ((k : ℕ) → i ≤ k → get_or xs k 0 ≡ get_or start k 0) →
      (k : ℕ) → i + 1 ≤ k → get_or zs k 0 ≡ get_or start k 0
  joined_left zs rest left k l = rest k (λ (e : k ≡ i). omega arith) ∙ left k (omega arith)

  pub joined_past : ((k : ℕ) → k < i → get_or xs k 0 ≡ bit_or (get_or start k 0) (get_or others k 0)) → ((k : ℕ) → i ≤ k → get_or xs k 0 ≡ get_or start k 0) → length others ≤ i →
      (k : ℕ) → k < i + 1 → get_or xs k 0 ≡ bit_or (get_or start k 0) (get_or others k 0)
  joined_past added left past = below_more (λ k. get_or xs k 0 ≡ bit_or (get_or start k 0) (get_or others k 0)) i added
      (left i (omega arith) ∙ sym (or_comm (get_or start i 0) 0) ∙ ap (λ x. bit_or (get_or start i 0) x) (sym (get_or_past others i 0 past)))

-- ---- no bits

pub nothing_has : (count n : ℕ) → n / 64 < count → has_bit (replicate count 0) n ≡ false
nothing_has count n l = ap (λ x. bit_at x (n % 64) == 1) (get_or-replicate count (n / 64) 0 0 l) ∙ ap (λ b. b == 1) (bit_at-zero (n % 64))

pub in_count : (variables n : ℕ) (words : List ℕ) (b : Bool) → n < variables → has_bit words n ≡ b → (nat_lt n variables && has_bit words n) ≡ b
in_count variables n words b l e = ap (λ t. t && has_bit words n) (lt-ltb n variables l) ∙ e
