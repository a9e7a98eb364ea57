-- Parts of numbers of so many bits, as a divider takes them.
use Rattle.std.proofs.Common.{◌≡◌, ◌≤◌, ◌<◌, ℕ, zero, suc, ◌+◌, ◌-◌, ◌*◌, ◌/◌, ◌%◌, ◌^◌, Bool, true, false, List, [], ◌∷◌, refl, sym, ap, ◌∙◌, subst, arith}
use Rattle.std.specs.Prelude.{◌==◌, ◌&&◌, nat_lt, nat_le, bit_xor, get_or, length, if◌then◌else◌}
use Rattle.std.specs.List.{list_all, range_with_len}
use Rattle.std.proofs.lemmas.Bool.{false≢true, ltb-true, leb-true, leb-false, eqb-true}
use Rattle.std.proofs.lemmas.List.FromFn.{get_or-range_with_len, length-range_with_len}
use Rattle.std.proofs.lemmas.Nat.{pow_pos, pow-add}
use Rattle.std.proofs.Math.Nat.{div-one, div-lt_iff_lt-mul, mod-eq_of_lt, add-mod_right, mod-lt, pow-suc}
use Rattle.rtl_units.specs.Division.{wider, step_bits, all_ones}
use Rattle.datapath.specs.Plans.{bits_of}
use Rattle.datapath.specs.Cycles.{bit}
use Rattle.datapath.specs.Units.{negated, top_bit}

-- ---- bits

pub bit_is_one : (x : ℕ) → x < 2 ^ 1 → x ≡ bit (x == 1)
bit_is_one zero h = refl
bit_is_one (suc zero) h = refl
bit_is_one (suc (suc x)) h = absurd (omega (arith, h))

pub differ_is : (a b : Bool) → bit_xor (bit a) (bit b) ≡ (bit a + bit b) % 2
differ_is true true = refl
differ_is true false = refl
differ_is false true = refl
differ_is false false = refl

-- ---- widths

pub wider_is : (bits : ℕ) → bits ≤ 64 → wider bits ≡ bits + 1
wider_is bits h = omega (arith, h)

-- the steps of a divider are counted with so many bits
pub step_bits_are : (bits : ℕ) → 32 ≤ bits → bits ≤ 64 → bits_of bits ≡ step_bits bits
step_bits_are bits low high = subst (λ n. bits_of n ≡ step_bits n) place (eqb-true (bits_of (32 + (bits - 32))) (step_bits (32 + (bits - 32))) (at (bits - 32) less)) where
  place : 32 + (bits - 32) ≡ bits
  place = omega (arith, low)

  less : bits - 32 < 33
  less = omega (arith, low, high)

  test : ℕ → Bool
  test n = bits_of n == step_bits n

  all_same : list_all (λ n. bits_of n == step_bits n) (range_with_len 32 33) ≡ true
  all_same = refl

  pick : (xs : List ℕ) (k : ℕ) → list_all (λ n. bits_of n == step_bits n) xs ≡ true → k < length xs → (bits_of (get_or xs k 0) == step_bits (get_or xs k 0)) ≡ true
  pick [] k e h = absurd (omega (arith, h))
  pick (x ∷ xs) zero e h = left (bits_of x == step_bits x) (list_all (λ n. bits_of n == step_bits n) xs) e where
    left : (a b : Bool) → (a && b) ≡ true → a ≡ true
    left true b e = refl
    left false b e = e
  pick (x ∷ xs) (suc k) e h = pick xs k (right (bits_of x == step_bits x) (list_all (λ n. bits_of n == step_bits n) xs) e) (omega (arith, h)) where
    right : (a b : Bool) → (a && b) ≡ true → b ≡ true
    right true b e = e
    right false b e = absurd (false≢true e)

  at : (k : ℕ) → k < 33 → (bits_of (32 + k) == step_bits (32 + k)) ≡ true
  at k h = subst (λ n. (bits_of n == step_bits n) ≡ true) (get_or-range_with_len 32 33 k 0 h) (pick (range_with_len 32 33) k all_same (omega (arith, h, length-range_with_len 32 33)))

step_by : (bits : ℕ) (b : Bool) → nat_lt bits 64 ≡ b → bits ≤ 64 → bits < 2 ^ (if b then 6 else 7)
step_by bits true e h = ltb-true bits 64 e
step_by bits false e h = omega (arith, h)

-- the number of steps fits
pub steps_fit : (bits : ℕ) → bits ≤ 64 → bits < 2 ^ step_bits bits
steps_fit bits h = step_by bits (nat_lt bits 64) refl h

step_between_by : (b : Bool) → (6 ≤ (if b then 6 else 7)) × ((if b then 6 else 7) ≤ 7)
step_between_by true = (omega arith, omega arith)
step_between_by false = (omega arith, omega arith)

pub step_between : (bits : ℕ) → (6 ≤ step_bits bits) × (step_bits bits ≤ 7)
step_between bits = step_between_by (nat_lt bits 64)

ones_by : (b : Bool) → all_ones (if b then 6 else 7) ≡ 2 ^ (if b then 6 else 7) - 1
ones_by true = refl
ones_by false = refl

pub ones_are : (bits : ℕ) → all_ones (step_bits bits) ≡ 2 ^ step_bits bits - 1
ones_are bits = ones_by (nat_lt bits 64)

-- one less
less_by : (x m : ℕ) → x < m → (x + (m - 1)) % m ≡ (if x == 0 then m - 1 else x - 1)
less_by x m h = by (x == 0) refl where
  by : (b : Bool) → (x == 0) ≡ b → (x + (m - 1)) % m ≡ (if b then m - 1 else x - 1)
  by true e = let place : x + (m - 1) ≡ m - 1 = omega (arith, eqb-true x 0 e) in ap (λ n. n % m) place ∙ mod-eq_of_lt (omega (arith, h))
  by false e =
      let some : 0 < x = positive x e in
      let place : x + (m - 1) ≡ x - 1 + m = omega (arith, h, some) in
      ap (λ n. n % m) place ∙ (add-mod_right (x - 1) m ∙ mod-eq_of_lt (omega (arith, h))) where
        positive : (y : ℕ) → (y == 0) ≡ false → 0 < y
        positive zero f = absurd (false≢true (sym f))
        positive (suc y) f = omega arith

pub one_less : (bits x : ℕ) → x < 2 ^ step_bits bits → (x + all_ones (step_bits bits)) % 2 ^ step_bits bits ≡ (if x == 0 then 2 ^ step_bits bits - 1 else x - 1)
one_less bits x h = ap (λ n. (x + n) % 2 ^ step_bits bits) (ones_are bits) ∙ less_by x (2 ^ step_bits bits) h

-- ---- parts

pub power_up : (bits : ℕ) → 1 ≤ bits → 2 ^ (bits - 1) * 2 ≡ 2 ^ bits
power_up bits h = let place : suc (bits - 1) ≡ bits = omega (arith, h) in sym (pow-suc 2 (bits - 1)) ∙ ap (λ n. 2 ^ n) place

-- the low bits
pub low_is : (bits x : ℕ) → 1 ≤ bits → x / 2 ^ 0 % 2 ^ (bits - 1 + 1 - 0) ≡ x % 2 ^ bits
low_is bits x h =
    let place : bits - 1 + 1 - 0 ≡ bits = omega (arith, h) in
    ap (λ n. n % 2 ^ (bits - 1 + 1 - 0)) (div-one x) ∙ ap (λ n. x % 2 ^ n) place

-- the bit at the top
pub top_part : (bits x : ℕ) → 1 ≤ bits → x / 2 ^ (bits - 1) % 2 ^ (bits - 1 + 1 - (bits - 1)) ≡ x / 2 ^ (bits - 1) % 2
top_part bits x h = let place : bits - 1 + 1 - (bits - 1) ≡ 1 = omega (arith, h) in ap (λ n. x / 2 ^ (bits - 1) % 2 ^ n) place

pub top_is : (bits x : ℕ) → 1 ≤ bits → x < 2 ^ bits → x / 2 ^ (bits - 1) % 2 ^ (bits - 1 + 1 - (bits - 1)) ≡ x / 2 ^ (bits - 1)
top_is bits x h less =
    let double : 2 * 2 ^ (bits - 1) ≡ 2 ^ bits = omega (arith, power_up bits h) in
    let small : x / 2 ^ (bits - 1) < 2 = (div-lt_iff_lt-mul (pow_pos (bits - 1))).1 (subst (λ n. x < n) (sym double) less) in
    top_part bits x h ∙ mod-eq_of_lt small

-- a bit is 1 or 0
below_two : (y : ℕ) → y < 2 → y ≡ bit (nat_le 1 y)
below_two zero h = refl
below_two (suc zero) h = refl
below_two (suc (suc y)) h = absurd (omega (arith, h))

pub sign_is : (bits x : ℕ) → 1 ≤ bits → x / 2 ^ (bits - 1) % 2 ^ (bits - 1 + 1 - (bits - 1)) ≡ bit (top_bit bits x)
sign_is bits x h = top_part bits x h ∙ below_two (x / 2 ^ (bits - 1) % 2) (mod-lt (x / 2 ^ (bits - 1)) (omega arith))

-- the bit that a subtraction borrows
pub borrow_is : (bits x : ℕ) → x < 2 ^ (bits + 1) → x / 2 ^ bits % 2 ^ (bits + 1 - bits) ≡ bit (nat_le (2 ^ bits) x)
borrow_is bits x less = ap (λ n. x / 2 ^ bits % 2 ^ n) place ∙ (mod-eq_of_lt small ∙ by (nat_le (2 ^ bits) x) refl) where
  place : bits + 1 - bits ≡ 1
  place = omega arith

  double : 2 * 2 ^ bits ≡ 2 ^ (bits + 1)
  double = omega (arith, pow-add 2 bits 1)

  small : x / 2 ^ bits < 2
  small = (div-lt_iff_lt-mul (pow_pos bits)).1 (subst (λ n. x < n) (sym double) less)

  by : (b : Bool) → nat_le (2 ^ bits) x ≡ b → x / 2 ^ bits ≡ bit b
  by true e = one (x / 2 ^ bits) refl where
    one : (q : ℕ) → x / 2 ^ bits ≡ q → x / 2 ^ bits ≡ 1
    one zero f =
        let none : x < 1 * 2 ^ bits = (div-lt_iff_lt-mul (pow_pos bits)).0 (subst (λ n. n < 1) (sym f) (omega arith)) in
        absurd (omega (arith, none, leb-true (2 ^ bits) x e))
    one (suc zero) f = f
    one (suc (suc q)) f = absurd (omega (arith, f, small))
  by false e =
      let none : x < 1 * 2 ^ bits = omega (arith, leb-false (2 ^ bits) x e) in
      let less_one : x / 2 ^ bits < 1 = (div-lt_iff_lt-mul (pow_pos bits)).1 none in
      omega (arith, less_one)

-- ---- signs

pub negated_is : (bits x : ℕ) → (0 + (2 ^ bits - x)) % 2 ^ bits ≡ negated bits x
negated_is bits x = let place : 0 + (2 ^ bits - x) ≡ 2 ^ bits - x = omega arith in ap (λ n. n % 2 ^ bits) place

pub no_high : (bits x : ℕ) → 0 * 2 ^ bits + x ≡ x
no_high bits x = omega arith

-- the number that takes one away fits
pub ones_fit : (bits : ℕ) → all_ones (step_bits bits) < 2 ^ step_bits bits
ones_fit bits = let some : 0 < 2 ^ step_bits bits = pow_pos (step_bits bits) in let is : all_ones (step_bits bits) ≡ 2 ^ step_bits bits - 1 = ones_are bits in omega (arith, some, is)
