-- Conversions on words are those on numbers.
use Rattle.std.proofs.Common.{◌≡◌, ◌∙◌, ◌<◌, ◌≤◌, ℕ, zero, suc, ◌+◌, ◌-◌, ◌^◌, Bool, true, false, refl, ap, sym, arith, inl, inr, ℤ, pos, negsuc, if◌then◌else◌}
use Rattle.std.specs.Prelude.{nat_lt, nat_le, nat_eq, ◌%◌}
use Rattle.std.specs.Ordering.{int_eq}
use Rattle.std.proofs.lemmas.Int.{ints}
use Rattle.std.proofs.lemmas.Bool.{cases_Bool, ltb-true}
use Rattle.std.proofs.Math.Nat.{mod-eq_of_lt, two-pow-succ, pow-le-pow_right}
use Rattle.std.proofs.lemmas.Nat.{pow_pos}
use Rattle.c_token.specs.declared.ctype.CType.{CType}
use Rattle.c_token.specs.declared.ctype.CType.TheVariants as type
use Rattle.c_value.specs.Values.{IsOf, bits_of, integer, int_type, width, pattern, number_of, convert, promoted}
use Rattle.c_meaning.proofs.Conversions.{conversions_are_congruent}
use Rattle.pass_runs.specs.LowerRuns.OperatorWords.Words.{IsType, IsWord, NaturalsAreWords}
use Rattle.pass_runs.proofs.LowerRuns.OperatorWords.Remainders.{remainder_small}

-- ---- widths

bits_some : (bits : ℕ) → 0 < bits_of bits
bits_some bits =
    elim (cases_Bool (nat_le bits 8)) [
      | inl t ↦ rw t (omega arith)
      | inr f ↦ elim (cases_Bool (nat_le bits 16)) [
        | inl t ↦ rw (f, t) (omega arith)
        | inr g ↦ elim (cases_Bool (nat_le bits 32)) [
          | inl t ↦ rw (f, g, t) (omega arith)
          | inr h ↦ rw (f, g, h) (omega arith)
        ]
      ]
    ]

twice : (b : ℕ) → 0 < b → 2 ^ b ≡ 2 ^ (b - 1) + 2 ^ (b - 1)
twice zero h = absurd (omega arith)
twice (suc b) h = let e : suc b - 1 ≡ b = omega arith in rw e (two-pow-succ b)

pub natural_below : (k : CType) (n : ℕ) → IsOf k (pos n) → n < 2 ^ width k
natural_below type.Bool n h = let e = h.1 in omega (arith, ints, e)
natural_below (type.Int false bits) n h = let e = h.1 in let some = pow_pos (bits_of bits) in omega (arith, ints, e, some)
natural_below (type.Int true bits) n h = let e = h.1 in let some = pow_pos (bits_of bits - 1) in let two = twice (bits_of bits) (bits_some bits) in omega (arith, ints, e, some, two)

negative_below : (k : CType) (n : ℕ) → IsOf k (negsuc n) → n + 1 < 2 ^ width k
negative_below type.Bool n h = let e = h.0 in absurd (omega (arith, ints, e))
negative_below (type.Int false bits) n h = let e = h.0 in absurd (omega (arith, ints, e))
negative_below (type.Int true bits) n h = let e = h.0 in let some = pow_pos (bits_of bits - 1) in let two = twice (bits_of bits) (bits_some bits) in omega (arith, ints, e, some, two)

pub naturals_are_words : NaturalsAreWords
naturals_are_words k n w h = h.word ∙ remainder_small n (2 ^ width k) (natural_below k n h.number)

-- ---- numbers of types

pub converted_number : (k : CType) (v : ℤ) → IsOf k (convert k v)
converted_number (type.Int signed bits) v = (conversions_are_congruent signed bits v).is_of
converted_number type.Bool v = either (int_eq v (pos 0)) where
  either : (c : Bool) → IsOf type.Bool (if c then pos 0 else pos 1)
  either true = (omega (arith, ints), omega (arith, ints))
  either false = (omega (arith, ints), omega (arith, ints))

-- a number of the type is converted to itself
pub own_number : (signed : Bool) (bits : ℕ) (v : ℤ) → IsOf (integer signed bits) v → convert (integer signed bits) v ≡ v
own_number signed bits v h = sym ((conversions_are_congruent signed bits v).only v h (record { before = 0; behind = 0; same = refl }))

bool_number : (v : ℤ) → IsOf type.Bool v → pos (pattern type.Bool v) ≡ v
bool_number (pos zero) h = refl
bool_number (pos (suc zero)) h = refl
bool_number (pos (suc (suc n))) h = let e = h.1 in absurd (omega (arith, ints, e))
bool_number (negsuc n) h = let e = h.0 in absurd (omega (arith, ints, e))

pub word_number : (k : CType) (v : ℤ) (w : ℕ) → IsWord k v w → number_of k w ≡ v
word_number type.Bool v w h = ap pos h.word ∙ bool_number v h.number
word_number (type.Int signed bits) v w h = ap (number_of (type.Int signed bits)) h.word ∙ own_number signed bits v h.number

positive : (n : ℕ) → nat_eq (suc n) 0 ≡ int_eq (pos (suc n)) (pos 0)
positive n = grind (arith, ints)

nonzero : (n : ℕ) → nat_eq (suc n) 0 ≡ false
nonzero n = grind (arith, ints)

pub word_zero : (k : CType) (v : ℤ) (w : ℕ) → IsWord k v w → nat_eq w 0 ≡ int_eq v (pos 0)
word_zero k (pos zero) w h = ap (λ n. nat_eq n 0) (h.word ∙ remainder_small 0 (2 ^ width k) (pow_pos (width k)))
word_zero k (pos (suc n)) w h = ap (λ n. nat_eq n 0) (h.word ∙ remainder_small (suc n) (2 ^ width k) (natural_below k (suc n) h.number)) ∙ positive n
word_zero k (negsuc n) w h =
    let below = negative_below k n h.number in
    let less : n < 2 ^ width k = omega (arith, below) in
    let same = mod-eq_of_lt less in
    let e : w ≡ suc (2 ^ width k - 2 - n) = h.word ∙ (let g : 2 ^ width k - 1 - n % 2 ^ width k ≡ suc (2 ^ width k - 2 - n) = omega (arith, below, same) in g) in
    ap (λ n. nat_eq n 0) e ∙ nonzero (2 ^ width k - 2 - n)

-- ---- promotion

power_le : (b c : ℕ) → b ≤ c → 2 ^ b ≤ 2 ^ c
power_le b c h = pow-le-pow_right (omega arith) h

small_number : (signed : Bool) (bits : ℕ) (v : ℤ) → bits_of bits ≡ bits → bits < 32 → IsOf (integer signed bits) v → IsOf int_type v
small_number true bits v e lt h =
    let low = h.0 in
    let high = h.1 in
    let power : 2 ^ (bits_of bits - 1) ≤ 2 ^ 31 = power_le (bits_of bits - 1) 31 (omega (arith, e, lt)) in (omega (arith, ints, low, power), omega (arith, ints, high, power))
small_number false bits v e lt h =
    let low = h.0 in
    let high = h.1 in
    let power : 2 ^ bits_of bits ≤ 2 ^ 31 = power_le (bits_of bits) 31 (omega (arith, e, lt)) in (omega (arith, ints, low), omega (arith, ints, high, power))

pub promoted_number : (k : CType) → IsType k → (v : ℤ) → IsOf k v → convert (promoted k) v ≡ v
promoted_number type.Bool t v h = let low = h.0 in let high = h.1 in own_number true 32 v (omega (arith, ints, low), omega (arith, ints, high))
promoted_number (type.Int signed bits) t v h = either (nat_lt bits 32) refl where
  either : (c : Bool) → nat_lt bits 32 ≡ c → convert (if c then int_type else type.Int signed bits) v ≡ v
  either true e = own_number true 32 v (small_number signed bits v t (ltb-true bits 32 e) h)
  either false e = own_number signed bits v h
