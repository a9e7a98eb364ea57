-- Which widths there are, and which words have a width.
use Rattle.std.specs.Prelude.{ℕ, ◌^◌, ◌==◌, ◌||◌, nat_lt, Bool, false, Option, Some, None}

abbrev pub is_width : ℕ → Bool
is_width bits = (bits == 1) || ((bits == 8) || ((bits == 16) || ((bits == 32) || (bits == 64))))

abbrev pub is_word : ℕ → ℕ → Bool
is_word bits word = nat_lt word (2 ^ bits)

-- the word has the width, if there is one
abbrev pub is_word_of : Option ℕ → ℕ → Bool
is_word_of None word = false
is_word_of (Some bits) word = is_word bits word
