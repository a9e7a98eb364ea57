-- The integer types of C, their values, and the conversions between them: C11 6.2.5, 6.2.6.2, 6.3.1. A value is a type and a number of it.
use Rattle.std.specs.Prelude.{ℕ, ◌-◌, ◌^◌, Bool, true, false, ◌&&◌, ℤ, pos, ◌-ℤ◌, ◌≤ℤ◌, neg_ℤ, int_le, unsigned_abs, nat_lt, nat_le, if◌then◌else◌}
use Rattle.std.specs.Int.{int_rem_euclid}
use Rattle.std.specs.Ordering.{int_eq}
use Rattle.c_token.specs.declared.ctype.CType.{CType}
use Rattle.c_token.specs.declared.ctype.CType.TheVariants as t

-- ---- types

abbrev pub integer : Bool → ℕ → CType
integer signed bits = t.Int signed bits

abbrev pub int_type : CType
int_type = integer true 32

abbrev pub bool_type : CType
bool_type = t.Bool

-- An integer has 8, 16, 32 or 64 bits. Another count of bits, which no program of C writes, stands for the next of these, so that every type has a meaning.
abbrev pub bits_of : ℕ → ℕ
bits_of bits = if nat_le bits 8 then 8 else (if nat_le bits 16 then 16 else (if nat_le bits 32 then 32 else 64))

-- the bits of the type's values, the sign included; a _Bool has one (C11 6.2.6.2, 6.7.2.1)
abbrev pub width : CType → ℕ
width t.Bool = 1
width (t.Int signed bits) = bits_of bits

abbrev pub is_signed : CType → Bool
is_signed t.Bool = false
is_signed (t.Int signed bits) = signed

-- the least and the greatest number of the type, in two's complement (C11 5.2.4.2.1, 6.2.6.2)
abbrev pub least : CType → ℤ
least t.Bool = pos 0
least (t.Int true bits) = neg_ℤ (pos (2 ^ (bits_of bits - 1)))
least (t.Int false bits) = pos 0

abbrev pub greatest : CType → ℤ
greatest t.Bool = pos 1
greatest (t.Int true bits) = pos (2 ^ (bits_of bits - 1) - 1)
greatest (t.Int false bits) = pos (2 ^ bits_of bits - 1)

-- n is a number of the type
abbrev pub is_of : CType → ℤ → Bool
is_of kind n = int_le (least kind) n && int_le n (greatest kind)

abbrev pub IsOf : CType → ℤ → Type 0
IsOf kind n = (least kind ≤ℤ n) × (n ≤ℤ greatest kind)

-- ---- bit patterns

-- the bits of a number in two's complement: what is congruent to it modulo 2^width and not negative (C11 6.2.6.2)
abbrev pub pattern : CType → ℤ → ℕ
pattern kind n = unsigned_abs (int_rem_euclid n (pos (2 ^ width kind)))

-- the number whose bits this word has
abbrev pub number_of : CType → ℕ → ℤ
number_of t.Bool word = pos word
number_of (t.Int true bits) word = if nat_lt word (2 ^ (bits_of bits - 1)) then pos word else (pos word -ℤ pos (2 ^ bits_of bits))
number_of (t.Int false bits) word = pos word

-- ---- conversions, C11 6.3.1.1 to 6.3.1.3 and 6.3.1.8

-- the one number of the type that is congruent to n modulo 2^width
abbrev pub wrap : CType → ℤ → ℤ
wrap kind n = number_of kind (pattern kind n)

-- C11 6.3.1.2 for _Bool, and 6.3.1.3. A conversion to a signed type that does not have the number is modulo 2^width.
abbrev pub convert : CType → ℤ → ℤ
convert t.Bool n = if int_eq n (pos 0) then pos 0 else pos 1
convert (t.Int signed bits) n = wrap (t.Int signed bits) n

-- the integer promotions, C11 6.3.1.1 paragraph 2: an int has all numbers of the smaller types
abbrev pub promoted : CType → CType
promoted t.Bool = int_type
promoted (t.Int signed bits) = if nat_lt bits 32 then int_type else t.Int signed bits

-- Of promoted types the wider one, since it has all numbers of the other where it is signed and the other is not; and of two types of one width the unsigned one.
abbrev pub wider : CType → CType → CType
wider (t.Int signed bits) (t.Int signed' bits') =
    if nat_lt bits bits' then t.Int signed' bits'
    else (if nat_lt bits' bits then t.Int signed bits
    else t.Int (signed && signed') bits)
wider kind kind' = int_type

-- the usual arithmetic conversions, C11 6.3.1.8
abbrev pub common : CType → CType → CType
common kind kind' = wider (promoted kind) (promoted kind')
