-- Operators on constants, computed in 128 bits and cut to fewer.
use Rattle.std.proofs.Common.{◌≡◌, ◌≤◌, ◌<◌, ◌*◌, ◌/◌, ◌%◌, ◌^◌, ℕ, zero, suc, ◌+◌, ◌-◌, Bool, true, false, sym, ap, ◌∙◌, subst, arith}
use Rattle.std.specs.Prelude.{bit_and, bit_or, bit_xor}
use Rattle.std.specs.Int.Bits.{and_lt}
use Rattle.std.proofs.Math.Nat.{mod-eq_of_lt, add-mul-mod_self_right, mul-suc, mul_comm, mul_assoc, mul-mod_left, div-eq_of_lt}
use Rattle.std.proofs.Math.Pow.{mod-mod-pow, pow_mono}
use Rattle.std.proofs.lemmas.Nat.{pow_pos, pow-add, shr_le, or_lt, xor_lt}
use Rattle.rtl_core.specs.ClockStep.{bit_of}

-- what is cut twice
pub cut_again : (n v : ℕ) → n ≤ 128 → v % 2 ^ 128 % 2 ^ n ≡ v % 2 ^ n
cut_again n v h =
    let whole : 128 - n + n ≡ 128 = omega (arith, h) in
    subst (λ k. v % 2 ^ k % 2 ^ n ≡ v % 2 ^ n) whole (mod-mod-pow v (128 - n) n)

pub uncut : (n v : ℕ) → v < 2 ^ n → v % 2 ^ n ≡ v
uncut n v h = mod-eq_of_lt h

-- a number of 128 bits in as many bits, or more
pub wide_enough : (n v : ℕ) → v < 2 ^ 128 → 128 ≤ n → v ≡ v % 2 ^ n
wide_enough n v h e = let more = pow_mono e in sym (uncut n v (omega (arith, h, more)))

-- a multiple of 2^128 more
difference : (n x y : ℕ) → n ≤ 128 → y < 2 ^ n → (x + (2 ^ 128 - y)) % 2 ^ n ≡ (x + (2 ^ n - y)) % 2 ^ n
difference n x y h lt =
    let whole : n + (128 - n) ≡ 128 = omega (arith, h) in
    let product : 2 ^ 128 ≡ 2 ^ n * 2 ^ (128 - n) = ap (λ k. 2 ^ k) (sym whole) ∙ pow-add 2 n (128 - n) in
    split (2 ^ (128 - n)) product (pow_pos (128 - n)) where
      split : (m : ℕ) → 2 ^ 128 ≡ 2 ^ n * m → 0 < m → (x + (2 ^ 128 - y)) % 2 ^ n ≡ (x + (2 ^ n - y)) % 2 ^ n
      split zero e some = absurd (omega (arith, some))
      split (suc m) e some =
          let parts : 2 ^ n * suc m ≡ 2 ^ n * m + 2 ^ n = mul-suc (2 ^ n) m in
          let turned : m * 2 ^ n ≡ 2 ^ n * m = mul_comm m (2 ^ n) in
          let sum : x + (2 ^ 128 - y) ≡ x + (2 ^ n - y) + m * 2 ^ n = omega (arith, e, parts, turned, lt) in
          ap (λ v. v % 2 ^ n) sum ∙ add-mul-mod_self_right (x + (2 ^ n - y)) m (2 ^ n)

pub subtracted : (n x y : ℕ) → n ≤ 128 → y < 2 ^ n → (x + (2 ^ 128 - y)) % 2 ^ 128 % 2 ^ n ≡ (x + (2 ^ n - y)) % 2 ^ n
subtracted n x y h lt = cut_again n (x + (2 ^ 128 - y)) h ∙ difference n x y h lt

pub both_bits : (n x y : ℕ) → x < 2 ^ n → y < 2 ^ n → bit_and x y % 2 ^ n ≡ bit_and x y
both_bits n x y h k = uncut n (bit_and x y) (and_lt n x y h k)

pub some_bits : (n x y : ℕ) → x < 2 ^ n → y < 2 ^ n → bit_or x y % 2 ^ n ≡ bit_or x y
some_bits n x y h k = uncut n (bit_or x y) (or_lt n x y h k)

pub one_of_bits : (n x y : ℕ) → x < 2 ^ n → y < 2 ^ n → bit_xor x y % 2 ^ n ≡ bit_xor x y
one_of_bits n x y h k = uncut n (bit_xor x y) (xor_lt n x y h k)

pub one_bit : (n : ℕ) (b : Bool) → n ≡ 1 → bit_of b % 2 ^ n ≡ bit_of b
one_bit n true e = ap (λ k. 1 % 2 ^ k) e
one_bit n false e = ap (λ k. 0 % 2 ^ k) e

pub shifted : (n x y : ℕ) → x < 2 ^ n → x / 2 ^ y % 2 ^ n ≡ x / 2 ^ y
shifted n x y h = let le = shr_le x y in uncut n (x / 2 ^ y) (omega (arith, le, h))

-- ---- shifts by 128 and more

pub none_left : (v k : ℕ) → 128 ≤ k → 0 ≡ v * 2 ^ k % 2 ^ 128
none_left v k h =
    let whole : k ≡ k - 128 + 128 = omega (arith, h) in
    sym (ap (λ m. v * 2 ^ m % 2 ^ 128) whole ∙ ap (λ m. v * m % 2 ^ 128) (pow-add 2 (k - 128) 128) ∙ ap (λ m. m % 2 ^ 128) (sym (mul_assoc v (2 ^ (k - 128)) (2 ^ 128))) ∙ mul-mod_left (v * 2 ^ (k - 128)) (2 ^ 128))

pub none_right : (v k : ℕ) → v < 2 ^ 128 → 128 ≤ k → 0 ≡ v / 2 ^ k
none_right v k lt h = let more = pow_mono h in sym (div-eq_of_lt (omega (arith, lt, more)))
