-- The highest bit of a pattern as the sign of a number, and what it fills.
use Rattle.std.proofs.Common.{◌≡◌, ◌≤◌, ◌<◌, ◌+◌, ◌-◌, ◌*◌, ◌/◌, ◌%◌, ◌^◌, ℕ, Bool, true, false, ℤ, pos, ◌+ℤ◌, ◌-ℤ◌, refl, sym, ap, ◌∙◌, subst, arith}
use Rattle.std.specs.Prelude.{◌==◌, nat_le, if◌then◌else◌, bit_and, bit_xor}
use Rattle.std.specs.Int.Bits.{xor_add_and}
use Rattle.std.proofs.lemmas.Bool.{leb-true, leb-false}
use Rattle.std.proofs.lemmas.Int.{ints}
use Rattle.std.proofs.lemmas.Nat.{pow_pos, pow_below, pow-add, one_shl, shr_high, and_mask}
use Rattle.std.proofs.lemmas.Nat.Bits.{and_pow}
use Rattle.std.proofs.Math.Nat.{mod-eq_of_lt, div-eq_of_lt}
use Rattle.std.proofs.Math.Pow.{pow_mono, not_mod}
use Rattle.ir_core.specs.Value.{number_of, pattern}
use Rattle.rtl_core.specs.ClockStep.{bit_of}
use Rattle.rtl_logic.proofs.Patterns.{twice, pattern_fits, itself, signed_by}

-- ---- the highest bit

high_half : (n x : ℕ) → 1 ≤ n → x < 2 ^ n → 2 ^ (n - 1) ≤ x → x / 2 ^ (n - 1) ≡ 1
high_half n x some lt le =
    let double = twice n some in
    let rest : x - 2 ^ (n - 1) < 2 ^ (n - 1) = omega (arith, double) in
    let whole : x ≡ 1 * 2 ^ (n - 1) + (x - 2 ^ (n - 1)) = omega arith in
    ap (λ m. m / 2 ^ (n - 1)) whole ∙ shr_high 1 (n - 1) (x - 2 ^ (n - 1)) rest

pub top_is : (n x : ℕ) → 1 ≤ n → x < 2 ^ n → x / 2 ^ (n - 1) % 2 ^ 1 ≡ bit_of (nat_le (2 ^ (n - 1)) x)
top_is n x some lt = by (nat_le (2 ^ (n - 1)) x) refl where
  by : (b : Bool) → nat_le (2 ^ (n - 1)) x ≡ b → x / 2 ^ (n - 1) % 2 ^ 1 ≡ bit_of b
  by true e = ap (λ m. m % 2 ^ 1) (high_half n x some lt (leb-true (2 ^ (n - 1)) x e))
  by false e = ap (λ m. m % 2 ^ 1) (div-eq_of_lt (leb-false (2 ^ (n - 1)) x e))

-- ---- what is filled by the sign

pub filled_by : (P : ℕ → Type 0) (h x t full : ℕ) → t ≡ bit_of (nat_le h x) → (h ≤ x → P full) → (x < h → P 0) → P (if t == 1 then full else 0)
filled_by P h x t full e f g = subst (λ m. P (if m == 1 then full else 0)) (sym e) (by (nat_le h x) refl) where
  by : (b : Bool) → nat_le h x ≡ b → P (if bit_of b == 1 then full else 0)
  by true e = f (leb-true h x e)
  by false e = g (leb-false h x e)

-- a number with what its sign fills
pub signed_filled : (P : ℤ → ℕ → Type 0) (n x t full : ℕ) → n ≤ 64 → t ≡ bit_of (nat_le (2 ^ (n - 1)) x) → (2 ^ (n - 1) ≤ x → P (pos x -ℤ pos (2 ^ n)) full) → (x < 2 ^ (n - 1) → P (pos x) 0)
    → P (number_of true n x) (if t == 1 then full else 0)
signed_filled P n x t full h e f g =
    filled_by (λ m. P (number_of true n x) m) (2 ^ (n - 1)) x t full e
    (λ le. signed_by (λ z. P z full) n x h (λ le2. f le) (λ lt. absurd (omega (arith, le, lt)))) (λ lt. signed_by (λ z. P z 0) n x h (λ le. absurd (omega (arith, le, lt))) (λ lt2. g lt))

pub minus_none : (k : ℕ) → k - 0 ≡ k
minus_none k = omega arith

-- as many ones as a constant has bits
pub all_ones : (n : ℕ) → n ≤ 128 → (2 ^ 128 - 1) % 2 ^ n ≡ 2 ^ n - 1
all_ones n h =
    let whole : 128 - n + n ≡ 128 = omega (arith, h) in
    ap (λ m. m % 2 ^ n) (sym (minus_none (2 ^ 128 - 1))) ∙ subst (λ m. (2 ^ m - 1 - 0) % 2 ^ n ≡ 2 ^ n - 1 - 0) whole (not_mod (128 - n) n (pow_pos n)) ∙ minus_none (2 ^ n - 1)

-- ---- wider patterns

-- the sign stands above the pattern
pub widened_is : (bits n x t : ℕ) → 1 ≤ n → n < bits → bits ≤ 64 → x < 2 ^ n → t ≡ bit_of (nat_le (2 ^ (n - 1)) x)
    → (if t == 1 then 2 ^ (bits - n) - 1 else 0) * 2 ^ n + x ≡ pattern bits (number_of true n x)
widened_is bits n x t some less most lt e =
    let whole : bits ≡ bits - n + n = omega (arith, less) in
    let product : 2 ^ bits ≡ 2 ^ (bits - n) * 2 ^ n = ap (λ k. 2 ^ k) whole ∙ pow-add 2 (bits - n) n in
    let k = 2 ^ (bits - n) - 1 in
    let positive = pow_pos (bits - n) in
    let next : 2 ^ (bits - n) ≡ k + 1 = omega (arith, positive) in
    let times = ap (λ u. u * 2 ^ n) next in
    let room = pow_mono {i = n} {j = bits} (omega (arith, less)) in
    signed_filled (λ z m. m * 2 ^ n + x ≡ pattern bits z) n x t k (omega (arith, less, most)) e
    (λ le. sym (pattern_fits bits (pos x -ℤ pos (2 ^ n)) 1 (k * 2 ^ n + x) most (omega (arith, ints, product, times)) (omega (arith, product, times, lt))))
    (λ small. let alone : 0 * 2 ^ n + x ≡ x = omega arith in alone ∙ sym (itself bits x most (omega (arith, room, lt))))

-- ---- the highest bit turned

pub turned_is : (n x : ℕ) → 1 ≤ n → n ≤ 64 → x < 2 ^ n → number_of true n x +ℤ pos (2 ^ (n - 1)) ≡ pos (bit_xor x (2 ^ (n - 1)))
turned_is n x some h lt =
    let half = 2 ^ (n - 1) in
    let double = twice n some in
    let sum = xor_add_and x half in
    let both = and_pow x (n - 1) in
    signed_by (λ z. z +ℤ pos half ≡ pos (bit_xor x half)) n x h
    (λ le.
    let one : x / half % 2 ≡ 1 = ap (λ m. m % 2) (high_half n x some lt le) in
    let is : bit_and x half ≡ 1 * half = both ∙ ap (λ m. m * half) one in
    let turned : bit_xor x half ≡ x - half = omega (arith, sum, is, le) in
    omega (arith, ints, turned, double, le))
    (λ small.
    let none : x / half % 2 ≡ 0 = ap (λ m. m % 2) (div-eq_of_lt small) in
    let is : bit_and x half ≡ 0 * half = both ∙ ap (λ m. m * half) none in
    let turned : bit_xor x half ≡ x + half = omega (arith, sum, is) in
    omega (arith, ints, turned))

-- all bits turned
pub xor_ones : (n x : ℕ) → x < 2 ^ n → bit_xor x (2 ^ n - 1) ≡ 2 ^ n - 1 - x
xor_ones n x lt =
    let sum = xor_add_and x (2 ^ n - 1) in
    let both : bit_and x (2 ^ n - 1) ≡ x = and_mask x n ∙ mod-eq_of_lt lt in
    omega (arith, sum, both, lt)

-- the pattern whose highest bit alone is 1
pub highest_is : (n top : ℕ) → 1 ≤ n → n ≤ 64 → top ≡ n - 1 → 1 * 2 ^ top % 2 ^ 128 % 2 ^ n ≡ 2 ^ (n - 1)
highest_is n top some h is =
    ap (λ m. m % 2 ^ n) (one_shl top 128 (omega (arith, is, h))) ∙ ap (λ k. 2 ^ k % 2 ^ n) is ∙ mod-eq_of_lt (pow_below (n - 1) n (omega (arith, some)))
