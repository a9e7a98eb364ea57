-- Shifts of patterns, for every count.
use Rattle.std.proofs.Common.{◌≡◌, ◌≤◌, ◌<◌, ◌+◌, ◌-◌, ◌*◌, ◌/◌, ◌%◌, ◌^◌, ℕ, Bool, true, false, pos, negsuc, ◌-ℤ◌, neg_ℤ, refl, sym, ap, ◌∙◌, subst, arith}
use Rattle.std.specs.Prelude.{◌==◌, nat_le, nat_lt, if◌then◌else◌, bit_xor, int_lt}
use Rattle.std.specs.Int.{int_shr}
use Rattle.std.specs.Int.Bits.{xor_zero_r}
use Rattle.std.proofs.lemmas.Bool.{ltb-false}
use Rattle.std.proofs.lemmas.Int.{ints}
use Rattle.std.proofs.lemmas.Nat.{pow_pos, pow-add, shr_le, shr_below, shr_split, div-mul-add}
use Rattle.std.proofs.Math.Nat.{mod-eq_of_lt, mod-lt, div-one, div-eq_of_lt, mul-mod_left, mul_assoc}
use Rattle.std.proofs.Math.Pow.{pow_mono}
use Rattle.ir_core.specs.Value.{width, number_of, pattern, product, shifted_left, shifted_right}
use Rattle.rtl_core.specs.ClockStep.{bit_of}
use Rattle.rtl_logic.proofs.Patterns.{width_is, count_is, pattern_fits, itself, signed_by}
use Rattle.rtl_logic.proofs.Signs.{minus_none, signed_filled, xor_ones}

-- ---- to the left

pub left_is : (n x y : ℕ) → n ≤ 64 → x * 2 ^ y % 2 ^ n ≡ shifted_left n x y
left_is n x y h = by (nat_lt y (width n)) refl where
  by : (b : Bool) → nat_lt y (width n) ≡ b → x * 2 ^ y % 2 ^ n ≡ (if b then product n x (2 ^ y) else 0)
  by true e = ap (λ m. x * 2 ^ y % m) (sym (count_is n h))
  by false e =
      let same = width_is n h in
      let past : n ≤ y = omega (arith, same, ltb-false y (width n) e) in
      let whole : y ≡ y - n + n = omega (arith, past) in
      ap (λ k. x * 2 ^ k % 2 ^ n) whole ∙ ap (λ m. x * m % 2 ^ n) (pow-add 2 (y - n) n) ∙ ap (λ m. m % 2 ^ n) (sym (mul_assoc x (2 ^ (y - n)) (2 ^ n))) ∙ mul-mod_left (x * 2 ^ (y - n)) (2 ^ n)

-- ---- to the right

none_left : (n x y : ℕ) → x < 2 ^ n → n ≤ y → x / 2 ^ y ≡ 0
none_left n x y lt past = let room = pow_mono {i = n} {j = y} past in div-eq_of_lt (omega (arith, room, lt))

not_negative : (x : ℕ) → int_lt (pos x) (pos 0) ≡ false
not_negative x = grind (arith, ints)

pub right_positive : (n x y : ℕ) → n ≤ 64 → x < 2 ^ n → shifted_right n (pos x) y ≡ x / 2 ^ y
right_positive n x y h lt = by (nat_lt y (width n)) refl where
  by : (b : Bool) → nat_lt y (width n) ≡ b → (if b then pattern n (int_shr (pos x) y) else (if int_lt (pos x) (pos 0) then pattern n (neg_ℤ (pos 1)) else 0)) ≡ x / 2 ^ y
  by true e = let le = shr_le x y in itself n (x / 2 ^ y) h (omega (arith, le, lt))
  by false e =
      let same = width_is n h in
      ap (λ b. if b then pattern n (neg_ℤ (pos 1)) else 0) (not_negative x) ∙ sym (none_left n x y lt (omega (arith, same, ltb-false y (width n) e)))

pub right_negative : (n t y : ℕ) → n ≤ 64 → t < 2 ^ n → shifted_right n (negsuc t) y ≡ 2 ^ n - 1 - t / 2 ^ y
right_negative n t y h lt = by (nat_lt y (width n)) refl where
  by : (b : Bool) → nat_lt y (width n) ≡ b → (if b then pattern n (int_shr (negsuc t) y) else (if int_lt (negsuc t) (pos 0) then pattern n (neg_ℤ (pos 1)) else 0)) ≡ 2 ^ n - 1 - t / 2 ^ y
  by true e =
      let u = t / 2 ^ y in
      let le = shr_le t y in
      pattern_fits n (negsuc u) 1 (2 ^ n - 1 - u) h (omega (arith, ints, le, lt)) (omega (arith, le, lt))
  by false e =
      let same = width_is n h in
      let none = none_left n t y lt (omega (arith, same, ltb-false y (width n) e)) in
      pattern_fits n (neg_ℤ (pos 1)) 1 (2 ^ n - 1) h (omega (arith, ints, lt)) (omega (arith, lt)) ∙ sym (minus_none (2 ^ n - 1)) ∙ ap (λ m. 2 ^ n - 1 - m) (sym none)

negative_is : (n x : ℕ) → x < 2 ^ n → pos x -ℤ pos (2 ^ n) ≡ negsuc (2 ^ n - 1 - x)
negative_is n x lt = omega (arith, ints, lt)

-- a negative number moved to the right, by its pattern
right_below : (n x y : ℕ) → n ≤ 64 → x < 2 ^ n → shifted_right n (pos x -ℤ pos (2 ^ n)) y ≡ 2 ^ n - 1 - (2 ^ n - 1 - x) / 2 ^ y
right_below n x y h lt = ap (λ z. shifted_right n z y) (negative_is n x lt) ∙ right_negative n (2 ^ n - 1 - x) y h (omega (arith, lt))

-- not moved
pub kept_right : (n x y : ℕ) → n ≤ 64 → x < 2 ^ n → y ≡ 0 → x ≡ shifted_right n (number_of true n x) y
kept_right n x y h lt none = subst (λ k. x ≡ shifted_right n (number_of true n x) k) (sym none) (signed_by (λ z. x ≡ shifted_right n z 0) n x h
    (λ le. let back : 2 ^ n - 1 - (2 ^ n - 1 - x) ≡ x = omega (arith, lt) in sym (right_below n x 0 h lt ∙ ap (λ m. 2 ^ n - 1 - m) (div-one (2 ^ n - 1 - x)) ∙ back))
    (λ small. sym (right_positive n x 0 h lt ∙ div-one x)))

-- turned by the sign, moved and turned back
pub turned_right : (n x t y : ℕ) → n ≤ 64 → x < 2 ^ n → t ≡ bit_of (nat_le (2 ^ (n - 1)) x)
    → bit_xor (bit_xor x (if t == 1 then 2 ^ n - 1 else 0) / 2 ^ y) (if t == 1 then 2 ^ n - 1 else 0) ≡ shifted_right n (number_of true n x) y
turned_right n x t y h lt e =
    signed_filled (λ z m. bit_xor (bit_xor x m / 2 ^ y) m ≡ shifted_right n z y) n x t (2 ^ n - 1) h e
    (λ le.
    let u = (2 ^ n - 1 - x) / 2 ^ y in
    let less = shr_le (2 ^ n - 1 - x) y in
    ap (λ m. bit_xor (m / 2 ^ y) (2 ^ n - 1)) (xor_ones n x lt) ∙ xor_ones n u (omega (arith, less, lt)) ∙ sym (right_below n x y h lt))
    (λ small. xor_zero_r (bit_xor x 0 / 2 ^ y) ∙ ap (λ m. m / 2 ^ y) (xor_zero_r x) ∙ sym (right_positive n x y h lt))

-- moved out, what is left is the sign
pub filled_right : (n x t y : ℕ) → n ≤ 64 → x < 2 ^ n → n ≤ y → t ≡ bit_of (nat_le (2 ^ (n - 1)) x) → (if t == 1 then 2 ^ n - 1 else 0) ≡ shifted_right n (number_of true n x) y
filled_right n x t y h lt past e =
    signed_filled (λ z m. m ≡ shifted_right n z y) n x t (2 ^ n - 1) h e
    (λ le. let none = none_left n (2 ^ n - 1 - x) y (omega (arith, lt)) past in sym (minus_none (2 ^ n - 1)) ∙ ap (λ m. 2 ^ n - 1 - m) (sym none) ∙ sym (right_below n x y h lt))
    (λ small. sym (right_positive n x y h lt ∙ none_left n x y lt past))

-- the complement of a pattern, without its low bits
cut_complement : (n c x : ℕ) → c ≤ n → x < 2 ^ n → (2 ^ n - 1 - x) / 2 ^ c ≡ 2 ^ (n - c) - 1 - x / 2 ^ c
cut_complement n c x within lt =
    let whole : n ≡ n - c + c = omega (arith, within) in
    let product : 2 ^ n ≡ 2 ^ (n - c) * 2 ^ c = ap (λ k. 2 ^ k) whole ∙ pow-add 2 (n - c) c in
    let q = x / 2 ^ c in
    let r = x % 2 ^ c in
    let split : q * 2 ^ c + r ≡ x = shr_split x c in
    let low : r < 2 ^ c = mod-lt x (pow_pos c) in
    let high : q < 2 ^ (n - c) = shr_below x (n - c) c (subst (λ k. x < 2 ^ k) whole lt) in
    let k = 2 ^ (n - c) - 1 - q in
    let parts : 2 ^ (n - c) ≡ k + 1 + q = omega (arith, high) in
    let times : 2 ^ (n - c) * 2 ^ c ≡ (k + 1 + q) * 2 ^ c = ap (λ u. u * 2 ^ c) parts in
    let is : 2 ^ n - 1 - x ≡ k * 2 ^ c + (2 ^ c - 1 - r) = omega (arith, product, times, split, low) in
    ap (λ m. m / 2 ^ c) is ∙ div-mul-add k (2 ^ c) (2 ^ c - 1 - r) (omega (arith, low))

-- the sign above the high bits
pub joined_right : (n x t c : ℕ) → n ≤ 64 → x < 2 ^ n → c ≤ n → t ≡ bit_of (nat_le (2 ^ (n - 1)) x)
    → (if t == 1 then 2 ^ c - 1 else 0) * 2 ^ (n - c) + x / 2 ^ c % 2 ^ (n - c) ≡ shifted_right n (number_of true n x) c
joined_right n x t c h lt within e =
    let whole : n ≡ n - c + c = omega (arith, within) in
    let product : 2 ^ n ≡ 2 ^ (n - c) * 2 ^ c = ap (λ k. 2 ^ k) whole ∙ pow-add 2 (n - c) c in
    let q = x / 2 ^ c in
    let high : q < 2 ^ (n - c) = shr_below x (n - c) c (subst (λ k. x < 2 ^ k) whole lt) in
    let cut : q % 2 ^ (n - c) ≡ q = mod-eq_of_lt high in
    let positive = pow_pos c in
    let k = 2 ^ c - 1 in
    let next : 2 ^ c ≡ k + 1 = omega (arith, positive) in
    let times : 2 ^ (n - c) * 2 ^ c ≡ 2 ^ (n - c) * (k + 1) = ap (λ u. 2 ^ (n - c) * u) next in
    signed_filled (λ z m. m * 2 ^ (n - c) + q % 2 ^ (n - c) ≡ shifted_right n z c) n x t k h e
    (λ le.
    let is : k * 2 ^ (n - c) + q ≡ 2 ^ n - 1 - (2 ^ (n - c) - 1 - q) = omega (arith, product, times, high) in
    ap (λ m. k * 2 ^ (n - c) + m) cut ∙ is ∙ ap (λ m. 2 ^ n - 1 - m) (sym (cut_complement n c x within lt)) ∙ sym (right_below n x c h lt))
    (λ small. let alone : 0 * 2 ^ (n - c) + q % 2 ^ (n - c) ≡ q = omega (arith, cut) in alone ∙ sym (right_positive n x c h lt))
