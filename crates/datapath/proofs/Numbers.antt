-- The bits of numbers, and numbers that stop at a greatest one.
use Rattle.std.proofs.Common.{◌≡◌, ◌≢◌, ℕ, suc, ◌+◌, ◌-◌, ◌*◌, ◌/◌, ◌%◌, ◌^◌, ◌<◌, ◌≤◌, take, length, get_or, ap, ◌∙◌, subst, inl, inr, arith}
use Rattle.std.specs.Prelude.{nat_le, count_by, min, Option, None, Some}
use Rattle.std.specs.Option.{SomeIff, unwrap_or}
use Rattle.std.specs.List.{range_with_len}
use Rattle.std.proofs.Math.Nat.{div-eq_of_lt, lt-div-mul-add, pow-le-pow_right}
use Rattle.std.proofs.lemmas.Nat.{pow_pos, one_shl}
use Rattle.std.proofs.lemmas.Bool.{cases_lt, le-leb, lt-leb}
use Rattle.std.proofs.lemmas.List.FromFn.{length-range_with_len, get_or-range_with_len}
use Rattle.std.proofs.lemmas.List.Sums.{count_by_more_yes, count_by_more_no}

-- ---- powers of two that are not above a number

abbrev counted : ℕ → ℕ → ℕ
counted number k = count_by (λ j. nat_le (2 ^ j) number) (take k (range_with_len 0 64))

place_is : (k : ℕ) → k < 64 → get_or (range_with_len 0 64) k 0 ≡ k
place_is k h = get_or-range_with_len 0 64 k 0 h ∙ (let e : 0 + k ≡ k = omega arith in e)

pub one_bit_more : (number k : ℕ) → k < 64 → number / 2 ^ k ≢ 0 → counted number (k + 1) ≡ counted number k + 1
one_bit_more number k h some =
    let within : k < length (range_with_len 0 64) = omega (arith, length-range_with_len 0 64) in
    let high : 2 ^ k ≤ number = elim (cases_lt number (2 ^ k)) [ inl low ↦ absurd (some (div-eq_of_lt low)) | inr high ↦ high ] in
    count_by_more_yes (λ j. nat_le (2 ^ j) number) (range_with_len 0 64) k 0 within (ap (λ j. nat_le (2 ^ j) number) (place_is k h) ∙ le-leb (2 ^ k) number high)

pub no_bit_more : (number k : ℕ) → k < 64 → number / 2 ^ k ≡ 0 → counted number (k + 1) ≡ counted number k
no_bit_more number k h none =
    let within : k < length (range_with_len 0 64) = omega (arith, length-range_with_len 0 64) in
    let whole : number < number / 2 ^ k * 2 ^ k + 2 ^ k = lt-div-mul-add (pow_pos k) in
    let past : number < 0 * 2 ^ k + 2 ^ k = subst (λ q. number < q * 2 ^ k + 2 ^ k) none whole in
    let low : number < 2 ^ k = omega (arith, past) in
    count_by_more_no (λ j. nat_le (2 ^ j) number) (range_with_len 0 64) k 0 within (ap (λ j. nat_le (2 ^ j) number) (place_is k h) ∙ lt-leb (2 ^ k) number low)

-- ---- powers of two, up to the greatest 64-bit number

pub small_power : (bits x other : ℕ) (o : Option ℕ) → bits < 64 → SomeIff o (bits < 64) ((1 * 2 ^ bits) % 2 ^ 64) → x ≡ unwrap_or o other → x ≡ 2 ^ bits
small_power bits x other None few h u = absurd (h few)
small_power bits x other (Some y) few h u = u ∙ h.1 ∙ one_shl bits 64 few

within_word : (bits x : ℕ) → bits < 64 → x ≡ 2 ^ bits → x ≡ min (2 ^ bits) (2 ^ 64 - 1)
within_word bits x few is =
    let power : 2 ^ suc bits ≤ 2 ^ 64 = pow-le-pow_right (omega arith) few in
    let twice : 2 ^ suc bits ≡ 2 ^ bits + 2 ^ bits = omega arith in
    let some : 0 < 2 ^ bits = pow_pos bits in
    omega arith

beyond_word : (bits x : ℕ) → 64 ≤ bits → x ≡ 2 ^ 64 - 1 → x ≡ min (2 ^ bits) (2 ^ 64 - 1)
beyond_word bits x many is =
    let power : 2 ^ 64 ≤ 2 ^ bits = pow-le-pow_right (omega arith) many in
    omega arith

pub capped_power : (bits depth x : ℕ) (o : Option ℕ) → depth ≡ min bits 255 → SomeIff o (depth < 64) ((1 * 2 ^ depth) % 2 ^ 64) → x ≡ unwrap_or o (2 ^ 64 - 1) → x ≡ min (2 ^ bits) (2 ^ 64 - 1)
capped_power bits depth x None d h u =
    let many : 64 ≤ bits = elim (cases_lt depth 64) [ inl few ↦ absurd (h few) | inr many ↦ omega (arith, d) ] in
    beyond_word bits x many u
capped_power bits depth x (Some y) d h u =
    let same : depth ≡ bits = omega (arith, d, h.0) in
    let few : bits < 64 = omega (arith, same, h.0) in
    within_word bits x few (u ∙ h.1 ∙ one_shl depth 64 h.0 ∙ ap (λ k. 2 ^ k) same)
