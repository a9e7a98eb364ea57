-- Tests of the bytes of a module's text (IEEE 1364-2005, 3.1 to 3.7).
use Rattle.std.specs.Prelude.{ℕ, Bool, nat_le, ◌==◌, ◌&&◌, ◌||◌}

-- space, tab, vertical tab, form feed, CR and LF
abbrev pub is_white : ℕ → Bool
is_white c = (c == 32) || (nat_le 9 c && nat_le c 13)

abbrev pub is_letter : ℕ → Bool
is_letter c = (nat_le 65 c && nat_le c 90) || ((nat_le 97 c && nat_le c 122) || (c == 95))

abbrev pub is_digit : ℕ → Bool
is_digit c = nat_le 48 c && nat_le c 57

abbrev pub is_hex_digit : ℕ → Bool
is_hex_digit c = is_digit c || ((nat_le 65 c && nat_le c 70) || (nat_le 97 c && nat_le c 102))

abbrev pub in_word : ℕ → Bool
in_word c = is_letter c || is_digit c
