-- The one meaning of the operations, on bit patterns. It is total: where C gives no value it is a fixed pattern. Signed numbers are in two's complement (C11 6.2.6.2), and the operators are those of C11 6.5.3.3 and 6.5.5 to 6.5.12.
use Rattle.std.specs.Prelude.{ℕ, ◌-◌, ◌^◌, ◌*◌, ◌%◌, ◌<◌, Bool, true, false, not, ◌&&◌, ◌||◌, ℤ, pos, ◌+ℤ◌, ◌-ℤ◌, ◌*ℤ◌, neg_ℤ, int_lt, int_le, int_div, int_rem, nat_lt, nat_le, nat_eq, unsigned_abs, bit_and, bit_or, bit_xor, if◌then◌else◌, List, get_or}
use Rattle.std.specs.Int.{int_rem_euclid, int_shr}
use Rattle.std.specs.Ordering.{int_eq}
use Rattle.ir_core.specs.declared.body.Simple.{Simple}
use Rattle.ir_core.specs.declared.body.Simple.TheVariants as s
use Rattle.ir_core.specs.declared.body.Pairing.{Pairing}
use Rattle.ir_core.specs.declared.body.OpKind.{OpKind}
use Rattle.ir_core.specs.declared.body.OpKind.TheVariants as o

-- ---- patterns and numbers

-- no pattern has more than 64 bits
abbrev pub width : ℕ → ℕ
width bits = if nat_lt bits 64 then bits else 64

-- how many patterns there are, and how many of them stand for negative numbers where they are signed
abbrev pub count_of : ℕ → ℕ
count_of bits = if nat_lt bits 64 then 2 ^ bits else 2 ^ 64

abbrev pub half_of : ℕ → ℕ
half_of bits = if nat_lt bits 64 then 2 ^ (bits - 1) else 2 ^ 63

-- the number that a pattern stands for
abbrev pub number_of : Bool → ℕ → ℕ → ℤ
number_of signed bits word = if signed && nat_le (half_of bits) word then pos word -ℤ pos (count_of bits) else pos word

-- the pattern that is congruent to a number modulo 2^bits
abbrev pub pattern : ℕ → ℤ → ℕ
pattern bits n = unsigned_abs (int_rem_euclid n (pos (count_of bits)))

-- the number has a pattern
abbrev pub is_of : Bool → ℕ → ℤ → Bool
is_of signed bits n =
    if signed then int_le (neg_ℤ (pos (half_of bits))) n && int_lt n (pos (half_of bits))
    else int_le (pos 0) n && int_lt n (pos (count_of bits))

abbrev pub truth : Bool → ℕ
truth holds = if holds then 1 else 0

-- ---- the operators

abbrev pub product : ℕ → ℕ → ℕ → ℕ
product bits x y = x * y % count_of bits

-- The quotient is rounded toward zero (C11 6.5.5). With the divisor 0 the dividend's absolute value is divided to all ones, and the remainder is the dividend.
abbrev pub quotient : ℕ → ℤ → ℤ → ℕ
quotient bits x y =
    if int_eq y (pos 0) then (if int_lt x (pos 0) then pattern bits (pos 1) else pattern bits (neg_ℤ (pos 1)))
    else pattern bits (int_div x y)

abbrev pub remainder : ℕ → ℤ → ℤ → ℕ
remainder bits x y = if int_eq y (pos 0) then pattern bits x else pattern bits (int_rem x y)

abbrev pub shifted_left : ℕ → ℕ → ℕ → ℕ
shifted_left bits x count = if nat_lt count (width bits) then product bits x (2 ^ count) else 0

abbrev pub shifted_right : ℕ → ℤ → ℕ → ℕ
shifted_right bits x count =
    if nat_lt count (width bits) then pattern bits (int_shr x count)
    else (if int_lt x (pos 0) then pattern bits (neg_ℤ (pos 1)) else 0)

abbrev pub simple : Simple → ℕ → ℕ → ℕ → ℕ
simple s.Add bits x y = pattern bits (pos x +ℤ pos y)
simple s.Sub bits x y = pattern bits (pos x -ℤ pos y)
simple s.And bits x y = pattern bits (pos (bit_and x y))
simple s.Or bits x y = pattern bits (pos (bit_or x y))
simple s.Xor bits x y = pattern bits (pos (bit_xor x y))

abbrev pub fused : Pairing → ℕ → ℕ → ℕ → ℕ → ℕ
fused p bits x y z =
    if p.left then simple p.second bits (simple p.first bits x y) z
    else simple p.second bits z (simple p.first bits x y)

abbrev pub chosen : ℕ → ℕ → ℕ → ℕ → ℕ
chosen bits test first second = if nat_eq test 0 then pattern bits (pos second) else pattern bits (pos first)

abbrev pub compared : OpKind → ℤ → ℤ → ℕ
compared o.Lt x y = truth (int_lt x y)
compared kind x y = truth (int_le x y)

-- the pattern that an operation gives on three arguments, the first of which has `from` bits
abbrev pub value_at : OpKind → Bool → ℕ → ℕ → ℕ → ℕ → ℕ → ℕ
value_at o.Add signed bits from x y z = simple s.Add bits x y
value_at o.Sub signed bits from x y z = simple s.Sub bits x y
value_at o.Mul signed bits from x y z = product bits x y
value_at o.Div signed bits from x y z = quotient bits (number_of signed bits x) (number_of signed bits y)
value_at o.Rem signed bits from x y z = remainder bits (number_of signed bits x) (number_of signed bits y)
value_at o.And signed bits from x y z = simple s.And bits x y
value_at o.Or signed bits from x y z = simple s.Or bits x y
value_at o.Xor signed bits from x y z = simple s.Xor bits x y
value_at o.Shl signed bits from x y z = shifted_left bits x y
value_at o.Shr signed bits from x y z = shifted_right bits (number_of signed bits x) y
value_at o.Eq signed bits from x y z = truth (nat_eq x y)
value_at o.Ne signed bits from x y z = truth (not (nat_eq x y))
value_at o.Lt signed bits from x y z = compared o.Lt (number_of signed bits x) (number_of signed bits y)
value_at o.Le signed bits from x y z = compared o.Le (number_of signed bits x) (number_of signed bits y)
value_at o.Not signed bits from x y z = pattern bits (neg_ℤ (pos 1) -ℤ pos x)
value_at o.Neg signed bits from x y z = pattern bits (neg_ℤ (pos x))
value_at o.Select signed bits from x y z = chosen bits x y z
value_at o.Widen signed bits from x y z = pattern bits (number_of signed from x)
value_at o.Narrow signed bits from x y z = pattern bits (pos x)
value_at o.Truth signed bits from x y z = truth (not (nat_eq x 0))
value_at o.Copy signed bits from x y z = pattern bits (pos x)
value_at o.Load signed bits from x y z = 0
value_at o.Store signed bits from x y z = 0
value_at (o.Fused pairing) signed bits from x y z = fused pairing bits x y z

-- the same on a list of arguments, in which one that is not there is 0
abbrev pub value : OpKind → Bool → ℕ → ℕ → List ℕ → ℕ
value kind signed bits from args = value_at kind signed bits from (get_or args 0 0) (get_or args 1 0) (get_or args 2 0)

-- ---- where C gives a value

-- C11 6.5 paragraph 5, and 6.2.5 paragraph 9: what is unsigned is modulo 2^bits
abbrev pub in_range : Bool → ℕ → ℤ → Bool
in_range signed bits n = not signed || is_of signed bits n

-- the numbers are of the type, and so is their product
abbrev pub is_product : ℕ → ℤ → ℤ → Bool
is_product bits x y = is_of true bits x && is_of true bits y && is_of true bits (x *ℤ y)

-- C11 6.5.7: the count is below the width, and where the type is signed the number is not negative and the type has the result
abbrev pub is_shift : Bool → ℕ → ℤ → ℕ → Bool
is_shift signed bits x count = nat_lt count (width bits) && (not signed || (int_le (pos 0) x && is_of signed bits (x *ℤ pos (2 ^ count))))

-- C11 6.5.5
abbrev pub is_quotient : Bool → ℕ → ℤ → ℤ → Bool
is_quotient signed bits x y = not (int_eq y (pos 0)) && is_of signed bits (int_div x y)

abbrev pub is_defined_at : OpKind → Bool → ℕ → ℤ → ℤ → ℕ → Bool
is_defined_at o.Add signed bits x y count = in_range signed bits (x +ℤ y)
is_defined_at o.Sub signed bits x y count = in_range signed bits (x -ℤ y)
is_defined_at o.Mul signed bits x y count = not signed || is_product bits x y
is_defined_at o.Neg signed bits x y count = in_range signed bits (neg_ℤ x)
is_defined_at o.Div signed bits x y count = is_quotient signed bits x y
is_defined_at o.Rem signed bits x y count = is_quotient signed bits x y
is_defined_at o.Shl signed bits x y count = is_shift signed bits x count
is_defined_at o.Shr signed bits x y count = nat_lt count (width bits)
is_defined_at kind signed bits x y count = true

abbrev pub is_defined : OpKind → Bool → ℕ → List ℕ → Bool
is_defined kind signed bits args = is_defined_at kind signed bits (number_of signed bits (get_or args 0 0)) (number_of signed bits (get_or args 1 0)) (get_or args 1 0)
