-- The value of decimal digits.
use Rattle.std.proofs.Common.{◌≡◌, ℕ, ◌+◌, ◌-◌, ◌*◌, ◌^◌, ◌<◌, true, List, length, get_or, take, arith, add-one}
use Rattle.std.proofs.Math.Nat.{pow-suc}
use Rattle.std.specs.Int.{IsInRange}
use Rattle.std.specs.Str.{all_ascii_digits}
use Rattle.std.specs.Str.Parse.{AllDigits, digits_value}
use Rattle.std.proofs.lemmas.Str.{digit_value_digit}
use Rattle.std.proofs.lemmas.Str.Parse.{numerals_by_value, tells_all_ascii_digits, digit_at}
use Rattle.std.proofs.lemmas.Int.Digits.{digits_value_more}

pub all_digits : (ds : List ℕ) → all_ascii_digits ds ≡ true → AllDigits 10 ds
all_digits ds h = (numerals_by_value _ tells_all_ascii_digits).to ds h

pub digit_is : (ds : List ℕ) (i : ℕ) → all_ascii_digits ds ≡ true → i < length ds → IsInRange 48 57 (get_or ds i 0)
digit_is ds i h l = digit_at ds i (all_digits ds h) l

-- one more digit
pub value_more : (v i : ℕ) (ds : List ℕ) → all_ascii_digits ds ≡ true → i < length ds → v ≡ digits_value 10 (take i ds) → v * 10 + (get_or ds i 0 - 48) ≡ digits_value 10 (take (i + 1) ds)
value_more v i ds h l e =
    let d = digit_value_digit (get_or ds i 0) (digit_is ds i h l) in
    omega (arith, d, digits_value_more 10 ds i l)

pub value_within : (v i : ℕ) (ds : List ℕ) → all_ascii_digits ds ≡ true → i < length ds → v < 10 ^ i → v * 10 + (get_or ds i 0 - 48) < 10 ^ (i + 1)
value_within v i ds h l small =
    let d = digit_is ds i h l in
    rw (add-one i, pow-suc 10 i) (omega arith)
