-- The definitions at small values.
use Rattle.std.specs.Prelude.{◌≡◌, ℕ, true, false, [], pos, negsuc, refl}
use Rattle.hls_base.specs.declared.place.Place.{Place}
use Rattle.hls_base.specs.declared.refusal.UbRule.TheVariants as ub
use Rattle.c_token.specs.declared.ctype.CType.{CType}
use Rattle.c_token.specs.declared.ctype.CType.TheVariants as t
use Rattle.c_tree.specs.declared.operator.Unary.TheVariants as u
use Rattle.c_tree.specs.declared.operator.Binary.TheVariants as b
use Rattle.c_tree.specs.Tree as tree
use Rattle.c_tree.specs.Tree.{Tree}
use Rattle.c_value.specs.Values.{integer, int_type, pattern, convert, promoted, common}
use Rattle.c_value.specs.Operators.{defined, undefined, unary_value, binary_value, binary_kind}
use Rattle.c_value.specs.Constant.{constant_value, constant, undefined_constant, not_constant}

abbrev unsigned_type : CType
unsigned_type = integer false 32

abbrev byte_type : CType
byte_type = integer false 8

abbrev char_type : CType
char_type = integer true 8

abbrev long_type : CType
long_type = integer true 64

-- ---- conversions

bytes_of_minus_one : pattern char_type (negsuc 0) ≡ 255
bytes_of_minus_one = refl

char_of_200 : convert char_type (pos 200) ≡ negsuc 55
char_of_200 = refl

unsigned_of_minus_one : convert unsigned_type (negsuc 0) ≡ pos 4294967295
unsigned_of_minus_one = refl

truth_of_256 : convert t.Bool (pos 256) ≡ pos 1
truth_of_256 = refl

truth_of_minus_2 : convert t.Bool (negsuc 1) ≡ pos 1
truth_of_minus_2 = refl

bytes_are_promoted : promoted byte_type ≡ int_type
bytes_are_promoted = refl

unsigned_wins_at_one_width : common int_type unsigned_type ≡ unsigned_type
unsigned_wins_at_one_width = refl

wider_signed_wins : common unsigned_type long_type ≡ long_type
wider_signed_wins = refl

-- ---- operators

sums_of_unsigned_wrap : binary_value b.Add unsigned_type (pos 4294967295) unsigned_type (pos 1) ≡ defined (pos 0)
sums_of_unsigned_wrap = refl

sums_of_int_overflow : binary_value b.Add int_type (pos 2147450880) int_type (pos 65536) ≡ undefined ub.Overflow
sums_of_int_overflow = refl

quotients_round_toward_zero : binary_value b.Div int_type (negsuc 6) int_type (pos 2) ≡ defined (negsuc 2)
quotients_round_toward_zero = refl

remainders_follow_the_dividend : binary_value b.Rem int_type (negsuc 6) int_type (pos 2) ≡ defined (negsuc 0)
remainders_follow_the_dividend = refl

remainders_of_negative_divisors : binary_value b.Rem int_type (pos 7) int_type (negsuc 1) ≡ defined (pos 1)
remainders_of_negative_divisors = refl

least_by_minus_one : binary_value b.Div int_type (negsuc 2147483647) int_type (negsuc 0) ≡ undefined ub.QuotientRange
least_by_minus_one = refl

least_remainder_by_minus_one : binary_value b.Rem int_type (negsuc 2147483647) int_type (negsuc 0) ≡ undefined ub.QuotientRange
least_remainder_by_minus_one = refl

division_by_zero : binary_value b.Rem int_type (pos 1) int_type (pos 0) ≡ undefined ub.DivideByZero
division_by_zero = refl

-- in unsigned int, where -1 is the greatest number
unsigned_order : binary_value b.Lt int_type (negsuc 0) unsigned_type (pos 1) ≡ defined (pos 0)
unsigned_order = refl

signed_order : binary_value b.Lt int_type (negsuc 0) int_type (pos 1) ≡ defined (pos 1)
signed_order = refl

right_shifts_keep_the_sign : binary_value b.Shr int_type (negsuc 7) int_type (pos 1) ≡ defined (negsuc 3)
right_shifts_keep_the_sign = refl

odd_right_shift : binary_value b.Shr int_type (negsuc 6) int_type (pos 1) ≡ defined (negsuc 3)
odd_right_shift = refl

counts_are_below_the_width : binary_value b.Shr int_type (negsuc 7) int_type (pos 32) ≡ undefined ub.ShiftCount
counts_are_below_the_width = refl

counts_come_first : binary_value b.Shl int_type (negsuc 7) int_type (negsuc 0) ≡ undefined ub.ShiftCount
counts_come_first = refl

left_shifts_of_negative_numbers : binary_value b.Shl int_type (negsuc 7) int_type (pos 0) ≡ undefined ub.ShiftLeft
left_shifts_of_negative_numbers = refl

left_shifts_out_of_range : binary_value b.Shl int_type (pos 1) int_type (pos 31) ≡ undefined ub.ShiftLeft
left_shifts_out_of_range = refl

unsigned_left_shifts_wrap : binary_value b.Shl unsigned_type (pos 3) int_type (pos 31) ≡ defined (pos 2147483648)
unsigned_left_shifts_wrap = refl

a_shift_has_its_left_type : binary_kind b.Shl byte_type long_type ≡ int_type
a_shift_has_its_left_type = refl

bits_of_negative_numbers : binary_value b.And int_type (negsuc 0) int_type (pos 6) ≡ defined (pos 6)
bits_of_negative_numbers = refl

exclusive_or_of_signs : binary_value b.Xor int_type (negsuc 0) int_type (pos 6) ≡ defined (negsuc 6)
exclusive_or_of_signs = refl

complement_of_a_byte : unary_value u.Not byte_type (pos 200) ≡ defined (negsuc 200)
complement_of_a_byte = refl

complement_of_unsigned : unary_value u.Not unsigned_type (pos 0) ≡ defined (pos 4294967295)
complement_of_unsigned = refl

least_has_no_negation : unary_value u.Minus int_type (negsuc 2147483647) ≡ undefined ub.Overflow
least_has_no_negation = refl

unsigned_negation : unary_value u.Minus unsigned_type (pos 1) ≡ defined (pos 4294967295)
unsigned_negation = refl

-- ---- constant expressions

abbrev at : Place
at = record { line = 1; column = 1; part = 0 }

abbrev int_number : ℕ → Tree
int_number n = tree.number n int_type at

minus_one : constant_value (tree.unary u.Minus (int_number 1) at) ≡ constant int_type (negsuc 0)
minus_one = refl

-- `1 ? 2 : 1 / 0`
not_evaluated : constant_value (tree.choice (int_number 1) (int_number 2) (tree.binary b.Div (int_number 1) (int_number 0) at) at at) ≡ constant int_type (pos 2)
not_evaluated = refl

-- `0 && 1 / 0`
not_reached : constant_value (tree.binary b.LogAnd (int_number 0) (tree.binary b.Div (int_number 1) (int_number 0) at) at) ≡ constant int_type (pos 0)
not_reached = refl

-- `1 / 0`
undefined_quotient : constant_value (tree.binary b.Div (int_number 1) (int_number 0) at) ≡ undefined_constant ub.DivideByZero
undefined_quotient = refl

-- `0 && n`
a_name : constant_value (tree.binary b.LogAnd (int_number 0) (tree.name [] at) at) ≡ not_constant
a_name = refl

-- `1 ? -1 : 1u`
chosen_type : constant_value (tree.choice (int_number 1) (tree.unary u.Minus (int_number 1) at) (tree.number 1 unsigned_type at) at at) ≡ constant unsigned_type (pos 4294967295)
chosen_type = refl

-- `(_Bool) 256`
cast_to_bool : constant_value (tree.cast t.Bool (int_number 256) at) ≡ constant t.Bool (pos 1)
cast_to_bool = refl
