-- Single words: plain ones, and decimal numbers.
use Rattle.std.specs.Prelude.{ℕ, ◌+◌, ◌-◌, ◌*◌, ◌==◌, ◌&&◌, Bool, false, not, nat_le, List, [], ◌∷◌, Option, Some, None, if◌then◌else◌}

-- it is not empty, and does not begin with `-`
abbrev pub is_plain : List ℕ → Bool
is_plain [] = false
is_plain (c ∷ cs) = not (c == 45)

abbrev pub is_digit : ℕ → Bool
is_digit c = nat_le 48 c && nat_le c 57

-- the number that these decimal digits write behind digits that write n
abbrev pub value_behind : ℕ → List ℕ → Option ℕ
value_behind n [] = Some n
value_behind n (c ∷ cs) = if is_digit c then value_behind (n * 10 + (c - 48)) cs else None

abbrev pub within : ℕ → ℕ → Option ℕ → Option ℕ
within low high None = None
within low high (Some n) = if nat_le low n && nat_le n high then Some n else None

-- the number that a word writes in decimal digits without a sign, if it is in this range
abbrev pub number_in : ℕ → ℕ → List ℕ → Option ℕ
number_in low high [] = None
number_in low high (c ∷ cs) = within low high (value_behind 0 (c ∷ cs))

-- the same where the word is there, and else this number
abbrev pub number_or : ℕ → ℕ → ℕ → Option (List ℕ) → Option ℕ
number_or low high n None = Some n
number_or low high n (Some word) = number_in low high word
