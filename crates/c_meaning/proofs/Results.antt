-- What operators give is of the type of the result.
use Rattle.std.proofs.Common.{◌≡◌, ℕ, ◌-◌, ◌^◌, ◌<◌, sym, refl, subst, Bool, true, false, true≢false, ◌&&◌, ◌||◌, not, ℤ, pos, negsuc, ◌+ℤ◌, ◌-ℤ◌, ◌*ℤ◌, neg_ℤ, if◌then◌else◌}
use Rattle.std.specs.Prelude.{bit_and, bit_or, bit_xor, int_lt, int_le, int_rem, int_div}
use Rattle.std.specs.Int.Bits.{and_lt}
use Rattle.std.specs.Ordering.{int_eq}
use Rattle.std.proofs.lemmas.Nat.{or_lt, xor_lt}
use Rattle.std.proofs.Math.Pow.{ones_sub-lt}
use Rattle.hls_base.specs.declared.refusal.UbRule.{UbRule}
use Rattle.hls_base.specs.declared.refusal.UbRule.TheVariants as ub
use Rattle.c_token.specs.declared.ctype.CType.{CType}
use Rattle.c_tree.specs.declared.operator.Unary.TheVariants as u
use Rattle.c_tree.specs.declared.operator.Binary.{Binary}
use Rattle.c_tree.specs.declared.operator.Binary.TheVariants as b
use Rattle.c_value.specs.Values.{int_type, width, is_signed, is_of, IsOf, pattern, wrap, convert, promoted, common}
use Rattle.c_value.specs.Operators.{Computed, defined, undefined, truth, is_true, in_range, complement, bitwise, divided, shifted_left, shifted_right, shifted, balanced, unary_value, binary_value}
use Rattle.c_meaning.specs.OperatorResults.{UnaryResultsFit, BinaryResultsFit}
use Rattle.c_meaning.proofs.Ranges.{number_in, converted_in, tested_in, word_in, pattern_below, remainder_in, shifted_in}

-- ---- results that are there

-- The number that is given, if any, is of this type.
abbrev Gives : CType → Computed → Type 0
Gives k (defined v) = IsOf k v
Gives k (undefined rule) = Unit {0}

given_in : (k : CType) (c : Computed) (v : ℤ) → Gives k c → c ≡ defined v → convert k v ≡ v
given_in k c v h e = number_in k v (subst (Gives k) e h)

if_gives : (k : CType) (test : Bool) (c : Computed) (rule : UbRule) → (test ≡ true → Gives k c) → Gives k (if test then c else undefined rule)
if_gives k true c rule h = h refl
if_gives k false c rule h = tt

truth_gives : (y : Bool) → IsOf int_type (truth y)
truth_gives true = converted_in int_type (pos 1)
truth_gives false = converted_in int_type (pos 0)

wrap_gives : (k : CType) (n : ℤ) → IsOf k (wrap k n)
wrap_gives k n = word_in k (pattern k n) (pattern_below k n)

-- ---- sums, differences, products and negations

in_range_as : (k : CType) (n : ℤ) (signed : Bool) → Gives k (if signed then (if is_of k n then defined n else undefined ub.Overflow) else defined (wrap k n))
in_range_as k n true = if_gives k (is_of k n) (defined n) ub.Overflow (λ e. tested_in k n e)
in_range_as k n false = wrap_gives k n

in_range_gives : (k : CType) (n : ℤ) → Gives k (in_range k n)
in_range_gives k n = in_range_as k n (is_signed k)

-- ---- divisions

divided_as : (f : ℤ → ℤ → ℤ) (k : CType) (x y : ℤ) (by_zero : Bool) → (is_of k (int_div x y) ≡ true → IsOf k (f x y))
    → Gives k (if by_zero then undefined ub.DivideByZero else (if is_of k (int_div x y) then defined (f x y) else undefined ub.QuotientRange))
divided_as f k x y true h = tt
divided_as f k x y false h = if_gives k (is_of k (int_div x y)) (defined (f x y)) ub.QuotientRange h

quotient_gives : (k : CType) (x y : ℤ) → Gives k (divided int_div k x y)
quotient_gives k x y = divided_as int_div k x y (int_eq y (pos 0)) (λ e. tested_in k (int_div x y) e)

remainder_gives : (k : CType) (x y : ℤ) → IsOf k x → Gives k (divided int_rem k x y)
remainder_gives k x y h = divided_as int_rem k x y (int_eq y (pos 0)) (λ e. remainder_in k x y h)

-- ---- shifts

and_second : (a b : Bool) → a && b ≡ true → b ≡ true
and_second true b e = e
and_second false b e = absurd (true≢false (sym e))

left_as : (k : CType) (n : ℤ) (count : ℕ) (signed : Bool)
    → Gives k (if signed then (if int_le (pos 0) n && is_of k (n *ℤ pos (2 ^ count)) then defined (n *ℤ pos (2 ^ count)) else undefined ub.ShiftLeft) else defined (wrap k (n *ℤ pos (2 ^ count))))
left_as k n count true =
    if_gives k (int_le (pos 0) n && is_of k (n *ℤ pos (2 ^ count))) (defined (n *ℤ pos (2 ^ count))) ub.ShiftLeft
    (λ e. tested_in k (n *ℤ pos (2 ^ count)) (and_second (int_le (pos 0) n) (is_of k (n *ℤ pos (2 ^ count))) e))
left_as k n count false = wrap_gives k (n *ℤ pos (2 ^ count))

shifted_gives : (f : CType → ℤ → ℕ → Computed) (k : CType) (x y : ℤ) → ((count : ℕ) → Gives k (f k x count)) → Gives k (shifted f k x y)
shifted_gives f k x (pos count) h = if_gives k (int_lt (pos count) (pos (width k))) (f k x count) ub.ShiftCount (λ e. h count)
shifted_gives f k x (negsuc below) h = tt

-- ---- bits

bitwise_gives : (f : ℕ → ℕ → ℕ) → ((k a b : ℕ) → a < 2 ^ k → b < 2 ^ k → f a b < 2 ^ k) → (k : CType) (x y : ℤ) → IsOf k (bitwise f k x y)
bitwise_gives f below k x y = word_in k (f (pattern k x) (pattern k y)) (below (width k) (pattern k x) (pattern k y) (pattern_below k x) (pattern_below k y))

complement_gives : (k : CType) (n : ℤ) → IsOf k (complement k n)
complement_gives k n = word_in k (2 ^ width k - 1 - pattern k n) (ones_sub-lt (width k) (pattern k n))

-- ---- all operators

pub unary_fits : UnaryResultsFit
unary_fits u.Plus k x v e = given_in (promoted k) (unary_value u.Plus k x) v (converted_in (promoted k) x) e
unary_fits u.Minus k x v e = given_in (promoted k) (unary_value u.Minus k x) v (in_range_gives (promoted k) (neg_ℤ (convert (promoted k) x))) e
unary_fits u.Not k x v e = given_in (promoted k) (unary_value u.Not k x) v (complement_gives (promoted k) x) e
unary_fits u.LogNot k x v e = given_in int_type (unary_value u.LogNot k x) v (truth_gives (not (is_true x))) e

module _ (left right : CType) (x y v : ℤ) where
  abbrev k : CType
  k = common left right

  abbrev p : ℤ
  p = convert k x

  abbrev q : ℤ
  q = convert k y

  common_fits : (op : Binary) → Gives k (balanced op k p q) → balanced op k p q ≡ defined v → convert k v ≡ v
  common_fits op h e = given_in k (balanced op k p q) v h e

  truth_fits : (y : Bool) → defined (truth y) ≡ defined v → convert int_type v ≡ v
  truth_fits y e = given_in int_type (defined (truth y)) v (truth_gives y) e

pub binary_fits : BinaryResultsFit
binary_fits b.Mul left right x y v e = common_fits left right x y v b.Mul (in_range_gives (common left right) (convert (common left right) x *ℤ convert (common left right) y)) e
binary_fits b.Div left right x y v e = common_fits left right x y v b.Div (quotient_gives (common left right) (convert (common left right) x) (convert (common left right) y)) e
binary_fits b.Rem left right x y v e = common_fits left right x y v b.Rem (remainder_gives (common left right) (convert (common left right) x) (convert (common left right) y) (converted_in (common left right) x)) e
binary_fits b.Add left right x y v e = common_fits left right x y v b.Add (in_range_gives (common left right) (convert (common left right) x +ℤ convert (common left right) y)) e
binary_fits b.Sub left right x y v e = common_fits left right x y v b.Sub (in_range_gives (common left right) (convert (common left right) x -ℤ convert (common left right) y)) e
binary_fits b.Shl left right x y v e =
    let n = convert (promoted left) x in
    given_in (promoted left) (binary_value b.Shl left x right y) v (shifted_gives shifted_left (promoted left) n (convert (promoted right) y) (λ count. left_as (promoted left) n count (is_signed (promoted left)))) e
binary_fits b.Shr left right x y v e =
    let n = convert (promoted left) x in
    given_in (promoted left) (binary_value b.Shr left x right y) v (shifted_gives shifted_right (promoted left) n (convert (promoted right) y) (λ count. shifted_in (promoted left) n count (converted_in (promoted left) x))) e
binary_fits b.Lt left right x y v e = truth_fits left right x y v (int_lt (convert (common left right) x) (convert (common left right) y)) e
binary_fits b.Gt left right x y v e = truth_fits left right x y v (int_lt (convert (common left right) y) (convert (common left right) x)) e
binary_fits b.Le left right x y v e = truth_fits left right x y v (int_le (convert (common left right) x) (convert (common left right) y)) e
binary_fits b.Ge left right x y v e = truth_fits left right x y v (int_le (convert (common left right) y) (convert (common left right) x)) e
binary_fits b.Eq left right x y v e = truth_fits left right x y v (int_eq (convert (common left right) x) (convert (common left right) y)) e
binary_fits b.Ne left right x y v e = truth_fits left right x y v (not (int_eq (convert (common left right) x) (convert (common left right) y))) e
binary_fits b.And left right x y v e = common_fits left right x y v b.And (bitwise_gives bit_and and_lt (common left right) (convert (common left right) x) (convert (common left right) y)) e
binary_fits b.Xor left right x y v e = common_fits left right x y v b.Xor (bitwise_gives bit_xor xor_lt (common left right) (convert (common left right) x) (convert (common left right) y)) e
binary_fits b.Or left right x y v e = common_fits left right x y v b.Or (bitwise_gives bit_or or_lt (common left right) (convert (common left right) x) (convert (common left right) y)) e
binary_fits b.LogAnd left right x y v e = truth_fits left right x y v (is_true x && is_true y) e
binary_fits b.LogOr left right x y v e = truth_fits left right x y v (is_true x || is_true y) e
