-- Integer constants, their values and types: C11 6.4.4.1.
use Rattle.std.specs.Prelude.{◌≡◌, ℕ, ◌-◌, ◌^◌, ◌<◌, ◌==◌, ◌&&◌, ◌||◌, nat_lt, nat_eq, Bool, true, false, List, [], ◌∷◌, length, take, drop, codes, slice_index, Option, Some, None, take_while, find, bytes_eq, if◌then◌else◌}
use Rattle.std.specs.Str.Parse.{digits_value}
use Rattle.std.specs.Char.{digit_value}
use Rattle.c_token.specs.declared.ctype.CType.{CType}
use Rattle.c_token.specs.declared.ctype.CType.TheVariants as t

pub data Suffix : Type 0 where
  plain : Suffix
  unsigned : Suffix
  long : Suffix
  unsigned_long : Suffix

abbrev pub is_unsigned_suffix : List ℕ → Bool
is_unsigned_suffix text = bytes_eq text (codes "u") || bytes_eq text (codes "U")

-- long-suffix or long-long-suffix
abbrev pub is_long_suffix : List ℕ → Bool
is_long_suffix text = bytes_eq text (codes "l") || bytes_eq text (codes "L") || bytes_eq text (codes "ll") || bytes_eq text (codes "LL")

-- the two in either order
abbrev pub is_unsigned_long_suffix : List ℕ → Bool
is_unsigned_long_suffix text =
    (is_unsigned_suffix (take 1 text) && is_long_suffix (drop 1 text))
    || (is_long_suffix (take (length text - 1) text) && is_unsigned_suffix (drop (length text - 1) text))

unfoldable pub suffix_of : List ℕ → Option Suffix
suffix_of text =
    if length text == 0 then Some plain
    else (if is_unsigned_suffix text then Some unsigned
    else (if is_long_suffix text then Some long
    else (if is_unsigned_long_suffix text then Some unsigned_long
    else None)))

abbrev pub integer : Bool → ℕ → CType
integer signed bits = t.Int signed bits

-- The types that a constant may have, in order. `long long` has the width of `long`.
unfoldable pub types : Suffix → Bool → List CType
types plain true = integer true 32 ∷ (integer true 64 ∷ [])
types plain false = integer true 32 ∷ (integer false 32 ∷ (integer true 64 ∷ (integer false 64 ∷ [])))
types unsigned is_decimal = integer false 32 ∷ (integer false 64 ∷ [])
types long true = integer true 64 ∷ []
types long false = integer true 64 ∷ (integer false 64 ∷ [])
types unsigned_long is_decimal = integer false 64 ∷ []

-- the type has the value, which is not negative
abbrev pub holds : ℕ → CType → Bool
holds value t.Bool = nat_lt value 2
holds value (t.Int true bits) = nat_lt value (2 ^ (bits - 1))
holds value (t.Int false bits) = nat_lt value (2 ^ bits)

-- the first type of the list that has the value
unfoldable pub type_of : ℕ → Suffix → Bool → Option CType
type_of value suffix is_decimal = find (holds value) (types suffix is_decimal)

-- A constant begins with `0x` or `0X`, with `0`, or with another digit.
abbrev pub is_hexadecimal : List ℕ → Bool
is_hexadecimal text = (slice_index text 0 == 48) && ((slice_index text 1 == 120) || (slice_index text 1 == 88))

abbrev pub is_octal : List ℕ → Bool
is_octal text = slice_index text 0 == 48

abbrev pub mark_length : List ℕ → ℕ
mark_length text = if is_hexadecimal text then 2 else 0

abbrev pub radix_of : List ℕ → ℕ
radix_of text = if is_hexadecimal text then 16 else (if is_octal text then 8 else 10)

-- its digits are the longest row of digits of its base, and its suffix what follows them
abbrev pub digits_of : List ℕ → List ℕ
digits_of text = take_while (λ b. nat_lt (digit_value b) (radix_of text)) (drop (mark_length text) text)

abbrev pub suffix_text : List ℕ → List ℕ
suffix_text text = drop (length (digits_of text)) (drop (mark_length text) text)

-- a text is a constant of this value and type
pub record IsConstant (text : List ℕ) (value : ℕ) (kind : CType) : Type 0 where
  pub suffix : Suffix
  pub has_digits : 0 < length (digits_of text)
  pub is_value : value ≡ digits_value (radix_of text) (digits_of text)
  pub is_suffix : suffix_of (suffix_text text) ≡ Some suffix
  pub is_type : type_of value suffix (nat_eq (radix_of text) 10) ≡ Some kind
