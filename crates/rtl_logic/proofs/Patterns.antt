-- Patterns of so many bits, and the numbers that they stand for, by powers of two.
use Rattle.std.proofs.Common.{◌≡◌, ◌≤◌, ◌<◌, ◌+◌, ◌-◌, ◌*◌, ◌%◌, ◌^◌, ℕ, Bool, true, false, ℤ, pos, ◌+ℤ◌, ◌-ℤ◌, neg_ℤ, refl, sym, ap, ◌∙◌, subst, arith}
use Rattle.std.specs.Prelude.{nat_lt, nat_le, if◌then◌else◌, unsigned_abs, bit_and, bit_or, bit_xor}
use Rattle.std.specs.Int.Bits.{and_lt}
use Rattle.std.proofs.lemmas.Bool.{ltb-false, leb-true, leb-false}
use Rattle.std.proofs.lemmas.Int.{ints, int_rem_euclid_is}
use Rattle.std.proofs.lemmas.Nat.{pow_pos, pow-add, or_lt, xor_lt}
use Rattle.std.proofs.Math.Nat.{mod-eq_of_lt}
use Rattle.ir_core.specs.declared.body.Simple.{Simple}
use Rattle.ir_core.specs.declared.body.Simple.TheVariants as s
use Rattle.ir_core.specs.Value.{width, count_of, half_of, number_of, pattern, simple}
use Rattle.rtl_core.specs.ClockStep.{pair_value}
use Rattle.rtl_logic.specs.Arguments.{pair_of}

-- ---- counts

width_by : (n : ℕ) (b : Bool) → nat_lt n 64 ≡ b → n ≤ 64 → (if b then n else 64) ≡ n
width_by n true e h = refl
width_by n false e h = omega (arith, ltb-false n 64 e, h)

pub width_is : (n : ℕ) → n ≤ 64 → width n ≡ n
width_is n h = width_by n (nat_lt n 64) refl h

power_by : (n : ℕ) (b : Bool) → (if b then 2 ^ n else 2 ^ 64) ≡ 2 ^ (if b then n else 64)
power_by n true = refl
power_by n false = refl

count_width : (n : ℕ) → count_of n ≡ 2 ^ width n
count_width n = power_by n (nat_lt n 64)

pub count_is : (n : ℕ) → n ≤ 64 → count_of n ≡ 2 ^ n
count_is n h = count_width n ∙ ap (λ k. 2 ^ k) (width_is n h)

half_by : (n : ℕ) (b : Bool) → nat_lt n 64 ≡ b → n ≤ 64 → (if b then 2 ^ (n - 1) else 2 ^ 63) ≡ 2 ^ (n - 1)
half_by n true e h = refl
half_by n false e h = let same : n ≡ 64 = omega (arith, ltb-false n 64 e, h) in ap (λ k. 2 ^ (k - 1)) (sym same)

pub half_is : (n : ℕ) → n ≤ 64 → half_of n ≡ 2 ^ (n - 1)
half_is n h = half_by n (nat_lt n 64) refl h

-- all patterns are twice those that stand for numbers that are not negative
pub twice : (n : ℕ) → 1 ≤ n → 2 ^ n ≡ 2 ^ (n - 1) + 2 ^ (n - 1)
twice n h =
    let whole : n ≡ n - 1 + 1 = omega (arith, h) in
    let product = pow-add 2 (n - 1) 1 in
    let same : 2 ^ n ≡ 2 ^ (n - 1 + 1) = ap (λ k. 2 ^ k) whole in
    omega (arith, same, product)

-- ---- patterns

-- the number with so many times 2^n added
pub pattern_is : (n : ℕ) (z : ℤ) (k m : ℕ) → n ≤ 64 → z +ℤ pos (k * 2 ^ n) ≡ pos m → pattern n z ≡ m % 2 ^ n
pattern_is n z k m h e = ap unsigned_abs (int_rem_euclid_is z (pos (count_of n)) (2 ^ n) k m (pow_pos n) (ap pos (count_is n h)) e)

pub pattern_fits : (n : ℕ) (z : ℤ) (k m : ℕ) → n ≤ 64 → z +ℤ pos (k * 2 ^ n) ≡ pos m → m < 2 ^ n → pattern n z ≡ m
pattern_fits n z k m h e lt = pattern_is n z k m h e ∙ mod-eq_of_lt lt

pub natural : (n x : ℕ) → n ≤ 64 → pattern n (pos x) ≡ x % 2 ^ n
natural n x h = ap (λ m. x % m) (count_is n h)

pub itself : (n x : ℕ) → n ≤ 64 → x < 2 ^ n → pattern n (pos x) ≡ x
itself n x h lt = natural n x h ∙ mod-eq_of_lt lt

pub difference : (n x y : ℕ) → n ≤ 64 → y < 2 ^ n → pattern n (pos x -ℤ pos y) ≡ (x + (2 ^ n - y)) % 2 ^ n
difference n x y h lt = pattern_is n (pos x -ℤ pos y) 1 (x + (2 ^ n - y)) h (omega (arith, ints, lt))

pub negation : (n x : ℕ) → n ≤ 64 → x < 2 ^ n → pattern n (neg_ℤ (pos x)) ≡ (0 + (2 ^ n - x)) % 2 ^ n
negation n x h lt = pattern_is n (neg_ℤ (pos x)) 1 (0 + (2 ^ n - x)) h (omega (arith, ints, lt))

pub complement : (n x : ℕ) → n ≤ 64 → x < 2 ^ n → pattern n (neg_ℤ (pos 1) -ℤ pos x) ≡ 2 ^ n - 1 - x
complement n x h lt = pattern_fits n (neg_ℤ (pos 1) -ℤ pos x) 1 (2 ^ n - 1 - x) h (omega (arith, ints, lt)) (omega (arith, lt))

-- a simple operator on patterns is the operator on wires
pub simple_is : (kind : Simple) (n x y : ℕ) → n ≤ 64 → x < 2 ^ n → y < 2 ^ n → pair_value (pair_of kind) n x y ≡ simple kind n x y
simple_is s.Add n x y h p q = sym (natural n (x + y) h)
simple_is s.Sub n x y h p q = sym (difference n x y h q)
simple_is s.And n x y h p q = sym (itself n (bit_and x y) h (and_lt n x y p q))
simple_is s.Or n x y h p q = sym (itself n (bit_or x y) h (or_lt n x y p q))
simple_is s.Xor n x y h p q = sym (itself n (bit_xor x y) h (xor_lt n x y p q))

-- ---- numbers

by_test : (P : ℤ → Type 0) (a b : ℕ) (z w : ℤ) (t : Bool) → nat_le a b ≡ t → (a ≤ b → P z) → (b < a → P w) → P (if t then z else w)
by_test P a b z w true e f g = f (leb-true a b e)
by_test P a b z w false e f g = g (leb-false a b e)

-- a signed number by its pattern's highest bit
pub signed_by : (P : ℤ → Type 0) (n x : ℕ) → n ≤ 64 → (2 ^ (n - 1) ≤ x → P (pos x -ℤ pos (2 ^ n))) → (x < 2 ^ (n - 1) → P (pos x)) → P (number_of true n x)
signed_by P n x h f g =
    by_test P (half_of n) x (pos x -ℤ pos (count_of n)) (pos x) (nat_le (half_of n) x) refl
    (λ le. subst (λ c. P (pos x -ℤ pos c)) (sym (count_is n h)) (f (subst (λ m. m ≤ x) (half_is n h) le))) (λ lt. g (subst (λ m. x < m) (half_is n h) lt))

-- ---- other widths

-- the low bits of a number are those of its pattern
pub low_bits : (signed : Bool) (bits from x : ℕ) → bits ≤ 64 → bits ≤ from → pattern bits (number_of signed from x) ≡ x % 2 ^ bits
low_bits false bits from x h less = natural bits x h
low_bits true bits from x h less =
    let k = 2 ^ (width from - bits) in
    let room : bits ≤ width from = within (nat_lt from 64) refl in
    let whole : width from ≡ width from - bits + bits = omega (arith, room) in
    let count : count_of from ≡ k * 2 ^ bits = count_width from ∙ ap (λ m. 2 ^ m) whole ∙ pow-add 2 (width from - bits) bits in
    by_test (λ z. pattern bits z ≡ x % 2 ^ bits) (half_of from) x (pos x -ℤ pos (count_of from)) (pos x) (nat_le (half_of from) x) refl
    (λ le. pattern_is bits (pos x -ℤ pos (count_of from)) k x h (ap (λ c. pos x -ℤ pos c +ℤ pos (k * 2 ^ bits)) count ∙ omega (arith, ints))) (λ lt. natural bits x h) where
      within : (b : Bool) → nat_lt from 64 ≡ b → bits ≤ (if b then from else 64)
      within true e = less
      within false e = h

-- a number that is not signed
pub unsigned_bits : (bits from x : ℕ) → bits ≤ 64 → pattern bits (number_of false from x) ≡ x % 2 ^ bits
unsigned_bits bits from x h = natural bits x h
