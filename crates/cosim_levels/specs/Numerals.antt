-- The number that a word writes: decimal digits without a leading zero, with an optional minus sign before them.
use Rattle.std.specs.Prelude.{◌==◌, ◌&&◌, not, Bool, false, ℕ, ℤ, pos, neg_ℤ, ◌^◌, nat_lt, List, [], ◌∷◌, Option, Some, None, if◌then◌else◌}
use Rattle.std.specs.Option.{option_and_then, option_map}
use Rattle.std.specs.Char.{is_ascii_digit}
use Rattle.std.specs.Str.{all_ascii_digits}
use Rattle.std.specs.Str.Parse.{digits_value}
use Rattle.c_token.specs.declared.ctype.CType.{CType}
use Rattle.c_value.specs.Values.{is_of, pattern}

-- digits, of which the first is 0 only where it is the only one
abbrev pub is_numeral : List ℕ → Bool
is_numeral [] = false
is_numeral (d ∷ []) = is_ascii_digit d
is_numeral (d ∷ e ∷ ds) = not (d == 48) && all_ascii_digits (d ∷ e ∷ ds)

abbrev pub natural_of : List ℕ → Option ℕ
natural_of ds = if is_numeral ds then Some (digits_value 10 ds) else None

-- the number that digits write behind an optional minus sign, where `natural` is the number of digits
abbrev pub number_by : (List ℕ → Option ℕ) → List ℕ → Option ℤ
number_by natural [] = None
number_by natural (b ∷ bs) = if b == 45 then option_map (λ n. neg_ℤ (pos n)) (natural bs) else option_map (λ n. pos n) (natural (b ∷ bs))

abbrev pub number_of_word : List ℕ → Option ℤ
number_of_word word = number_by natural_of word

-- the bits of a number of the type
abbrev pub bits_of_number : CType → ℤ → Option ℕ
bits_of_number kind n = if is_of kind n then Some (pattern kind n) else None

-- the bits of the number that a word writes, where it is one of the type
abbrev pub bits_of_word : CType → List ℕ → Option ℕ
bits_of_word kind word = option_and_then (bits_of_number kind) (number_of_word word)

abbrev pub first_and_others : Option ℕ → Option (List ℕ) → Option (List ℕ)
first_and_others None others = None
first_and_others (Some n) None = None
first_and_others (Some n) (Some ns) = Some (n ∷ ns)

-- the bits of all these words, where each writes a number of the type
abbrev pub bits_of_words : CType → List (List ℕ) → Option (List ℕ)
bits_of_words kind [] = Some []
bits_of_words kind (word ∷ words) = first_and_others (bits_of_word kind word) (bits_of_words kind words)

-- a number below 10^20, which is above those of every type
abbrev pub limited : ℕ → Option ℕ
limited n = if nat_lt n (10 ^ 20) then Some n else None

abbrev pub short_natural : List ℕ → Option ℕ
short_natural ds = option_and_then limited (natural_of ds)
