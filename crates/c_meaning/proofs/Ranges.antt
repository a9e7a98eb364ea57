-- Numbers that are in the range of a type.
use Rattle.std.proofs.Common.{◌≡◌, ℕ, zero, suc, ◌+◌, ◌-◌, ◌^◌, ◌<◌, sym, refl, subst, inl, inr, Bool, true, false, true≢false, ◌&&◌, T, ℤ, pos, negsuc, ◌≤ℤ◌, arith, if◌then◌else◌}
use Rattle.std.specs.Prelude.{nat_lt, nat_le, nat_abs, unsigned_abs, int_le, int_rem}
use Rattle.std.specs.Int.{int_rem_euclid, int_shr}
use Rattle.std.specs.Ordering.{int_eq}
use Rattle.std.proofs.lemmas.Int.{ints}
use Rattle.std.proofs.lemmas.Bool.{cases_Bool, ltb-true, ltb-false}
use Rattle.std.proofs.Math.Nat.{mod-lt, mod-le, two-pow-succ}
use Rattle.std.proofs.lemmas.Nat.{pow_pos, shr_le}
use Rattle.c_token.specs.declared.ctype.CType.{CType}
use Rattle.c_token.specs.declared.ctype.CType.TheVariants as t
use Rattle.c_value.specs.Values.{integer, bits_of, width, least, greatest, is_of, IsOf, pattern, number_of, convert}
use Rattle.c_meaning.specs.ValueLaws.{IsCongruent}
use Rattle.c_meaning.proofs.Conversions.{conversions_are_congruent}

-- ---- numbers of a type

bool_in : (n : ℤ) → IsOf t.Bool n → convert t.Bool n ≡ n
bool_in (pos zero) h = refl
bool_in (pos (suc zero)) h = refl
bool_in (pos (suc (suc n))) h = absurd (omega (arith, ints, h.1))
bool_in (negsuc n) h = absurd (omega (arith, ints, h.0))

-- a conversion leaves a number of the type alone
pub number_in : (k : CType) (n : ℤ) → IsOf k n → convert k n ≡ n
number_in t.Bool n h = bool_in n h
number_in (t.Int signed bits) n h =
    let same : IsCongruent (integer signed bits) n n = record { before = 0; behind = 0; same = refl } in
    sym ((conversions_are_congruent signed bits n).only n h same)

bool_converted : (b : Bool) → IsOf t.Bool (if b then pos 0 else pos 1)
bool_converted true = (omega (arith, ints), omega (arith, ints))
bool_converted false = (omega (arith, ints), omega (arith, ints))

-- what is converted is of the type
pub converted_in : (k : CType) (n : ℤ) → IsOf k (convert k n)
converted_in t.Bool n = bool_converted (int_eq n (pos 0))
converted_in (t.Int signed bits) n = (conversions_are_congruent signed bits n).is_of

both_true : (a b : Bool) → a && b ≡ true → (a ≡ true) × (b ≡ true)
both_true true b e = (refl, e)
both_true false b e = absurd (true≢false (sym e))

at_most : (x y : ℤ) → int_le x y ≡ true → x ≤ℤ y
at_most x y e = record { le = subst T (sym e) tt }

-- what the test tells
pub tested_in : (k : CType) (n : ℤ) → is_of k n ≡ true → IsOf k n
tested_in k n e =
    let q = both_true (int_le (least k) n) (int_le n (greatest k)) e in
    (at_most (least k) n q.0, at_most n (greatest k) q.1)

-- ---- words

bits_positive : (bits : ℕ) → 0 < bits_of bits
bits_positive bits =
    elim (cases_Bool (nat_le bits 8)) [
      | inl t ↦ rw t (omega arith)
      | inr f ↦ elim (cases_Bool (nat_le bits 16)) [
        | inl t ↦ rw (f, t) (omega arith)
        | inr g ↦ elim (cases_Bool (nat_le bits 32)) [
          | inl t ↦ rw (f, g, t) (omega arith)
          | inr h ↦ rw (f, g, h) (omega arith)
        ]
      ]
    ]

twice : (b : ℕ) → 0 < b → 2 ^ b ≡ 2 ^ (b - 1) + 2 ^ (b - 1)
twice zero h = absurd (omega arith)
twice (suc b) h = let e : suc b - 1 ≡ b = omega arith in rw e (two-pow-succ b)

-- the number of a word of the type's width
pub word_in : (k : CType) (word : ℕ) → word < 2 ^ width k → IsOf k (number_of k word)
word_in t.Bool word lt = (omega (arith, ints), omega (arith, ints, lt))
word_in (t.Int false bits) word lt = (omega (arith, ints), omega (arith, ints, lt))
word_in (t.Int true bits) word lt =
    let two = twice (bits_of bits) (bits_positive bits) in
    let some = pow_pos (bits_of bits - 1) in
    elim (cases_Bool (nat_lt word (2 ^ (bits_of bits - 1)))) [
      | inl e ↦
          let low = ltb-true word (2 ^ (bits_of bits - 1)) e in
          rw e (omega (arith, ints, some), omega (arith, ints, low))
      | inr e ↦
          let high = ltb-false word (2 ^ (bits_of bits - 1)) e in
          rw e (omega (arith, ints, two, high), omega (arith, ints, some, lt))
    ]

remainder_below : (n : ℤ) (m : ℕ) → 0 < m → unsigned_abs (int_rem_euclid n (pos m)) < m
remainder_below (pos a) m h = mod-lt a h
remainder_below (negsuc a) m h = let lt = mod-lt a h in omega (arith, lt)

pub pattern_below : (k : CType) (n : ℤ) → pattern k n < 2 ^ width k
pattern_below k n = remainder_below n (2 ^ width k) (pow_pos (width k))

-- ---- smaller numbers

pub zero_in : (k : CType) → IsOf k (pos 0)
zero_in t.Bool = (omega (arith, ints), omega (arith, ints))
zero_in (t.Int false bits) = (omega (arith, ints), omega (arith, ints))
zero_in (t.Int true bits) = (omega (arith, ints), omega (arith, ints))

-- between 0 and a number of the type, or between such a number and 0
between_in : (k : CType) (x y : ℤ) → IsOf k x → ((pos 0 ≤ℤ y) × (y ≤ℤ x)) → IsOf k y
between_in k x y h b = let z = zero_in k in (omega (arith, ints, z.0, b.0), omega (arith, ints, h.1, b.1))

below_in : (k : CType) (x y : ℤ) → IsOf k x → ((x ≤ℤ y) × (y ≤ℤ pos 0)) → IsOf k y
below_in k x y h b = let z = zero_in k in (omega (arith, ints, h.0, b.0), omega (arith, ints, z.1, b.1))

-- the remainder of a number of the type
pub remainder_in : (k : CType) (x y : ℤ) → IsOf k x → IsOf k (int_rem x y)
remainder_in k (pos a) y h = between_in k (pos a) (int_rem (pos a) y) h (let le = mod-le a (nat_abs y) in (omega (arith, ints), omega (arith, ints, le)))
remainder_in k (negsuc a) y h = below_in k (negsuc a) (int_rem (negsuc a) y) h (let le = mod-le (suc a) (nat_abs y) in (omega (arith, ints, le), omega (arith, ints)))

-- a number of the type that is shifted to the right
pub shifted_in : (k : CType) (x : ℤ) (count : ℕ) → IsOf k x → IsOf k (int_shr x count)
shifted_in k (pos a) count h = between_in k (pos a) (int_shr (pos a) count) h (let le = shr_le a count in (omega (arith, ints), omega (arith, ints, le)))
shifted_in k (negsuc a) count h = below_in k (negsuc a) (int_shr (negsuc a) count) h (let le = shr_le a count in (omega (arith, ints, le), omega (arith, ints)))
