-- What bytes of a source are, and what begins at a place that is no token: C11 5.1.1.2, 5.2.1, 6.4, 6.4.9.
use Rattle.std.specs.Prelude.{◌==◌, ◌&&◌, ◌||◌, nat_le, ℕ, Bool, List, [], ◌∷◌, length, slice_index, nat_eq, if◌then◌else◌}
use Rattle.std.specs.List.{starts_with}

abbrev pub is_between : ℕ → ℕ → ℕ → Bool
is_between low high b = nat_le low b && nat_le b high

-- a letter or `_`, C11 6.4.2.1
unfoldable pub is_letter : ℕ → Bool
is_letter b = is_between 97 122 b || is_between 65 90 b || (b == 95)

unfoldable pub is_digit : ℕ → Bool
is_digit b = is_between 48 57 b

abbrev pub is_word_byte : ℕ → Bool
is_word_byte b = is_letter b || is_digit b

-- white space that ends no line: space, tab, vertical tab, form feed, CR
unfoldable pub is_blank : ℕ → Bool
is_blank b = (b == 32) || (b == 9) || (b == 11) || (b == 12) || (b == 13)

-- What begins at a place: white space of so many bytes, the end of a line, a comment, or what has to be a token.
pub data Opening : Type 0 where
  at_end : Opening
  at_line_end : Opening
  at_space : ℕ → Opening
  at_line_comment : Opening
  at_block_comment : Opening
  at_token : Opening

-- a backslash directly before an LF, C11 5.1.1.2 phase 2; a CR directly before the LF counts as not there
abbrev pub splice : List ℕ
splice = 92 ∷ 10 ∷ []

abbrev pub splice_with_return : List ℕ
splice_with_return = 92 ∷ 13 ∷ 10 ∷ []

unfoldable pub opening : List ℕ → Opening
opening bytes =
    if length bytes == 0 then at_end
    else (if slice_index bytes 0 == 10 then at_line_end
    else (if is_blank (slice_index bytes 0) then at_space 1
    else (if starts_with nat_eq bytes splice then at_space 2
    else (if starts_with nat_eq bytes splice_with_return then at_space 3
    else (if starts_with nat_eq bytes (47 ∷ 47 ∷ []) then at_line_comment
    else (if starts_with nat_eq bytes (47 ∷ 42 ∷ []) then at_block_comment
    else at_token))))))
