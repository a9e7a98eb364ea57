-- Numbers of many digits, which no type has.
use Rattle.std.proofs.Common.{◌≡◌, ℕ, ℤ, pos, neg_ℤ, suc, ◌+◌, ◌-◌, ◌*◌, ◌^◌, ◌<◌, ◌≤◌, ◌==◌, ◌&&◌, not, nat_lt, Bool, true, false, List, [], ◌∷◌, length, Option, Some, None, refl, sym, ap, ◌∙◌, arith, inl, inr, mul_assoc}
use Rattle.std.specs.Prelude.{int_le}
use Rattle.std.proofs.Math.Nat.{pow-succ', pow-le-pow_right, mul-le-mul_right}
use Rattle.std.proofs.lemmas.Bool.{cases_Bool, cases_lt, le-leb, leb-true}
use Rattle.std.proofs.lemmas.Int.{ints}
use Rattle.std.specs.Option.{option_map, option_and_then}
use Rattle.std.specs.Int.{IsInRange}
use Rattle.std.specs.Char.{digit_value}
use Rattle.std.specs.Str.{all_ascii_digits}
use Rattle.std.specs.Str.Parse.{digits_value, digits_value_after}
use Rattle.std.proofs.lemmas.Str.{digit_value_digit}
use Rattle.std.proofs.lemmas.Int.Digits.{digits_value-lt}
use Rattle.c_token.specs.declared.ctype.CType.{CType}
use Rattle.c_token.specs.declared.ctype.CType.TheVariants as t
use Rattle.c_value.specs.Values.{bits_of, least, is_of, pattern}
use Rattle.cosim_levels.specs.Numerals.{is_numeral, natural_of, number_by, limited, short_natural, bits_of_number, bits_of_word}
use Rattle.cosim_levels.proofs.Digits.{all_digits, digit_is}

-- ---- the value of digits

after-ge : (n : ℕ) (ds : List ℕ) → n * 10 ^ length ds ≤ digits_value_after 10 n ds
after-ge n [] = omega arith
after-ge n (c ∷ cs) =
    let more : n * 10 ≤ n * 10 + digit_value c = omega arith in
    let grown : n * 10 * 10 ^ length cs ≤ (n * 10 + digit_value c) * 10 ^ length cs = mul-le-mul_right (10 ^ length cs) more in
    let same : n * 10 ^ suc (length cs) ≡ n * 10 * 10 ^ length cs = ap (λ x. n * x) (pow-succ' 10 (length cs)) ∙ sym (mul_assoc n 10 (10 ^ length cs)) in
    omega (arith, same, grown, after-ge (n * 10 + digit_value c) cs)

numeral-digits : (ds : List ℕ) → is_numeral ds ≡ true → all_ascii_digits ds ≡ true
numeral-digits [] h = cc
numeral-digits (d ∷ []) h = rw h refl
numeral-digits (d ∷ e ∷ ds) h = and_right (not (d == 48)) (all_ascii_digits (d ∷ e ∷ ds)) h
  where
    and_right : (a b : Bool) → (a && b) ≡ true → b ≡ true
    and_right true b h = h
    and_right false b h = cc

not_zero : (d : ℕ) (b : Bool) → (not (d == 48) && b) ≡ true → (d ≡ 48 → ⊥)
not_zero d b h e = let g : false ≡ true = rw e at h in cc

-- of several digits without a leading zero, each weighs ten times the next
long_value : (ds : List ℕ) → is_numeral ds ≡ true → 20 < length ds → 10 ^ 20 ≤ digits_value 10 ds
long_value [] h long = omega arith
long_value (d ∷ []) h long = omega arith
long_value (d ∷ e ∷ ds) h long =
    let digits : all_ascii_digits (d ∷ e ∷ ds) ≡ true = numeral-digits (d ∷ e ∷ ds) h in
    let digit : IsInRange 48 57 d = digit_is (d ∷ e ∷ ds) 0 digits (omega arith) in
    let other : d ≡ 48 → ⊥ = not_zero d (all_ascii_digits (d ∷ e ∷ ds)) h in
    let some : 1 ≤ 0 * 10 + digit_value d = omega (arith, digit_value_digit d digit, other) in
    let power : 10 ^ 20 ≤ 10 ^ length (e ∷ ds) = (let le : 20 ≤ length (e ∷ ds) = omega arith in pow-le-pow_right (omega arith) le) in
    let weight : 1 * 10 ^ length (e ∷ ds) ≤ (0 * 10 + digit_value d) * 10 ^ length (e ∷ ds) = mul-le-mul_right (10 ^ length (e ∷ ds)) some in
    omega (arith, power, weight, after-ge (0 * 10 + digit_value d) (e ∷ ds))

-- ---- digits that are read

limited_small : (n : ℕ) → n < 10 ^ 20 → limited n ≡ Some n
limited_small n h = rw (le-leb (suc n) (10 ^ 20) h) refl

limited_great : (n : ℕ) → 10 ^ 20 ≤ n → limited n ≡ None
limited_great n h = elim (cases_Bool (nat_lt n (10 ^ 20))) [ inl t ↦ absurd (omega (arith, leb-true (suc n) (10 ^ 20) t)) | inr f ↦ rw f refl ]

pub natural-digits : (ds : List ℕ) → is_numeral ds ≡ true → all_ascii_digits ds ≡ true
natural-digits = numeral-digits

pub short_value : (ds : List ℕ) → is_numeral ds ≡ true → length ds ≤ 20 → digits_value 10 ds < 10 ^ 20
short_value ds h few =
    let power : 10 ^ length ds ≤ 10 ^ 20 = pow-le-pow_right (omega arith) few in
    omega (arith, power, digits_value-lt 10 ds (all_digits ds (numeral-digits ds h)))

pub natural_found : (ds : List ℕ) → is_numeral ds ≡ true → length ds ≤ 20 → Some (digits_value 10 ds) ≡ short_natural ds
natural_found ds h few = rw h (sym (limited_small (digits_value 10 ds) (short_value ds h few)))

pub natural_none : (ds : List ℕ) → is_numeral ds ≡ false → None ≡ short_natural ds
natural_none ds h = rw h refl

pub natural_long : (ds : List ℕ) → 20 < length ds → None ≡ short_natural ds
natural_long ds long =
    elim (cases_Bool (is_numeral ds)) [
      | inl h ↦ rw h (sym (limited_great (digits_value 10 ds) (long_value ds h long)))
      | inr h ↦ rw h refl
    ]

-- ---- numbers that no type has

bits_of-le : (bits : ℕ) → bits_of bits ≤ 64
bits_of-le bits = grind arith

power-le : (bits : ℕ) → 2 ^ bits_of bits ≤ 2 ^ 64
power-le bits = pow-le-pow_right (omega arith) (bits_of-le bits)

half-le : (bits : ℕ) → 2 ^ (bits_of bits - 1) ≤ 2 ^ 64
half-le bits = let le : bits_of bits - 1 ≤ 64 = omega (arith, bits_of-le bits) in pow-le-pow_right (omega arith) le

and_false : (a : Bool) → (a && false) ≡ false
and_false true = refl
and_false false = refl

above : (n g : ℕ) → g < n → int_le (pos n) (pos g) ≡ false
above n g h = grind (arith, ints)

below : (n g : ℕ) → g < n → int_le (neg_ℤ (pos g)) (neg_ℤ (pos n)) ≡ false
below n g h = grind (arith, ints)

too_great : (kind : CType) (n : ℕ) → 10 ^ 20 ≤ n → is_of kind (pos n) ≡ false
too_great t.Bool n h = rw (above n 1 (omega arith)) (and_false (int_le (pos 0) (pos n)))
too_great (t.Int true bits) n h = rw (above n (2 ^ (bits_of bits - 1) - 1) (omega (arith, half-le bits))) (and_false (int_le (least (t.Int true bits)) (pos n)))
too_great (t.Int false bits) n h = rw (above n (2 ^ bits_of bits - 1) (omega (arith, power-le bits))) (and_false (int_le (pos 0) (pos n)))

too_low : (kind : CType) (n : ℕ) → 10 ^ 20 ≤ n → is_of kind (neg_ℤ (pos n)) ≡ false
too_low t.Bool n h = rw (below n 0 (omega arith)) refl
too_low (t.Int true bits) n h = rw (below n (2 ^ (bits_of bits - 1)) (omega (arith, half-le bits))) refl
too_low (t.Int false bits) n h = rw (below n 0 (omega arith)) refl

bits_of_great : (kind : CType) (n : ℕ) → 10 ^ 20 ≤ n → bits_of_number kind (pos n) ≡ None
bits_of_great kind n h = rw (too_great kind n h) refl

bits_of_low : (kind : CType) (n : ℕ) → 10 ^ 20 ≤ n → bits_of_number kind (neg_ℤ (pos n)) ≡ None
bits_of_low kind n h = rw (too_low kind n h) refl

abbrev sign : (ℕ → ℤ) → CType → Option ℕ → Option ℕ
sign z kind o = option_and_then (bits_of_number kind) (option_map z o)

same_sign : (z : ℕ → ℤ) (kind : CType) → ((n : ℕ) → 10 ^ 20 ≤ n → bits_of_number kind (z n) ≡ None) → (o : Option ℕ) → sign z kind (option_and_then limited o) ≡ sign z kind o
same_sign z kind none None = refl
same_sign z kind none (Some n) =
    elim (cases_lt n (10 ^ 20)) [
      | inl h ↦ ap (sign z kind) (limited_small n h)
      | inr h ↦ ap (sign z kind) (limited_great n h) ∙ sym (none n h)
    ]

-- a number that is not read has no bits
pub short_bits : (kind : CType) (word : List ℕ) → option_and_then (bits_of_number kind) (number_by short_natural word) ≡ bits_of_word kind word
short_bits kind [] = refl
short_bits kind (b ∷ bs) =
    elim (cases_Bool (b == 45)) [
      | inl e ↦ rw e (same_sign (λ n. neg_ℤ (pos n)) kind (bits_of_low kind) (natural_of bs))
      | inr e ↦ rw e (same_sign (λ n. pos n) kind (bits_of_great kind) (natural_of (b ∷ bs)))
    ]

pub word_in : (kind : CType) (word : List ℕ) (n : ℤ) → Some n ≡ number_by short_natural word → is_of kind n ≡ true → Some (pattern kind n) ≡ bits_of_word kind word
word_in kind word n e h = let same : bits_of_number kind n ≡ bits_of_word kind word = rw (← e) at (short_bits kind word) in (let some : bits_of_number kind n ≡ Some (pattern kind n) = rw h refl in sym some ∙ same)

pub word_out : (kind : CType) (word : List ℕ) (n : ℤ) → Some n ≡ number_by short_natural word → is_of kind n ≡ false → None ≡ bits_of_word kind word
word_out kind word n e h = let same : bits_of_number kind n ≡ bits_of_word kind word = rw (← e) at (short_bits kind word) in (let none : bits_of_number kind n ≡ None = rw h refl in sym none ∙ same)

pub word_none : (kind : CType) (word : List ℕ) → None ≡ number_by short_natural word → None ≡ bits_of_word kind word
word_none kind word e = rw (← e) at (short_bits kind word)

pub ruleset words = (word_in, word_out, word_none)

pub ruleset naturals = (natural_found, natural_none, natural_long)
