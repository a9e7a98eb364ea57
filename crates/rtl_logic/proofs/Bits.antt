-- Single bits.
use Rattle.std.proofs.Common.{◌≡◌, ◌<◌, ◌-◌, ◌^◌, ℕ, zero, suc, refl, arith}
use Rattle.std.specs.Prelude.{◌==◌, bit_and, bit_or, if◌then◌else◌}
use Rattle.rtl_core.specs.ClockStep.{bit_of}

-- a bit is 0 or 1
pub bit_cases : (P : ℕ → Type 0) → P 0 → P 1 → (x : ℕ) → x < 2 → P x
bit_cases P p q zero h = p
bit_cases P p q (suc zero) h = q
bit_cases P p q (suc (suc x)) h = absurd (omega (arith, h))

abbrev Two : (ℕ → ℕ → Type 0) → Type 0
Two P = (x y : ℕ) → x < 2 → y < 2 → P x y

two_cases : (P : ℕ → ℕ → Type 0) → P 0 0 → P 0 1 → P 1 0 → P 1 1 → Two P
two_cases P a b c d x y h k = bit_cases (λ m. P m y) (bit_cases (P 0) a b y k) (bit_cases (P 1) c d y k) x h

pub and_zero : (y : ℕ) → y < 2 → 0 ≡ bit_and 0 y
and_zero y k = bit_cases (λ m. 0 ≡ bit_and 0 m) refl refl y k

pub zero_and : (x : ℕ) → x < 2 → 0 ≡ bit_and x 0
zero_and x h = bit_cases (λ m. 0 ≡ bit_and m 0) refl refl x h

pub and_one : (x : ℕ) → x < 2 → x ≡ bit_and x 1
and_one x h = bit_cases (λ m. m ≡ bit_and m 1) refl refl x h

pub one_and : (y : ℕ) → y < 2 → y ≡ bit_and 1 y
one_and y k = bit_cases (λ m. m ≡ bit_and 1 m) refl refl y k

pub and_itself : (x : ℕ) → x < 2 → x ≡ bit_and x x
and_itself x h = bit_cases (λ m. m ≡ bit_and m m) refl refl x h

pub and_opposite : (x y : ℕ) → x < 2 → y < 2 → x ≡ 1 - y → 0 ≡ bit_and x y
and_opposite = two_cases (λ x y. x ≡ 1 - y → 0 ≡ bit_and x y) (λ e. refl) (λ e. refl) (λ e. refl) (λ e. absurd (omega (arith, e)))

pub one_or : (y : ℕ) → y < 2 → 1 ≡ bit_or 1 y
one_or y k = bit_cases (λ m. 1 ≡ bit_or 1 m) refl refl y k

pub or_one : (x : ℕ) → x < 2 → 1 ≡ bit_or x 1
or_one x h = bit_cases (λ m. 1 ≡ bit_or m 1) refl refl x h

pub or_zero : (x : ℕ) → x < 2 → x ≡ bit_or x 0
or_zero x h = bit_cases (λ m. m ≡ bit_or m 0) refl refl x h

pub zero_or : (y : ℕ) → y < 2 → y ≡ bit_or 0 y
zero_or y k = bit_cases (λ m. m ≡ bit_or 0 m) refl refl y k

pub or_itself : (x : ℕ) → x < 2 → x ≡ bit_or x x
or_itself x h = bit_cases (λ m. m ≡ bit_or m m) refl refl x h

pub or_opposite : (x y : ℕ) → x < 2 → y < 2 → x ≡ 1 - y → 1 ≡ bit_or x y
or_opposite = two_cases (λ x y. x ≡ 1 - y → 1 ≡ bit_or x y) (λ e. absurd (omega (arith, e))) (λ e. refl) (λ e. refl) (λ e. absurd (omega (arith, e)))

pub equals_one : (x : ℕ) → x < 2 → x ≡ bit_of (x == 1)
equals_one x h = bit_cases (λ m. m ≡ bit_of (m == 1)) refl refl x h

pub equals_zero : (x : ℕ) → x < 2 → 2 ^ 1 - 1 - x ≡ bit_of (x == 0)
equals_zero x h = bit_cases (λ m. 2 ^ 1 - 1 - m ≡ bit_of (m == 0)) refl refl x h

-- a choice of bits
pub pick_or : (t y : ℕ) → t < 2 → y < 2 → bit_or t y ≡ (if t == 1 then 1 else y)
pick_or = two_cases (λ t y. bit_or t y ≡ (if t == 1 then 1 else y)) refl refl refl refl

pub pick_and : (t x : ℕ) → t < 2 → x < 2 → bit_and t x ≡ (if t == 1 then x else 0)
pick_and = two_cases (λ t x. bit_and t x ≡ (if t == 1 then x else 0)) refl refl refl refl

pub pick_and_not : (t y : ℕ) → t < 2 → y < 2 → bit_and (2 ^ 1 - 1 - t) y ≡ (if t == 1 then 0 else y)
pick_and_not = two_cases (λ t y. bit_and (2 ^ 1 - 1 - t) y ≡ (if t == 1 then 0 else y)) refl refl refl refl

pub pick_or_not : (t x : ℕ) → t < 2 → x < 2 → bit_or (2 ^ 1 - 1 - t) x ≡ (if t == 1 then x else 1)
pick_or_not = two_cases (λ t x. bit_or (2 ^ 1 - 1 - t) x ≡ (if t == 1 then x else 1)) refl refl refl refl
