-- Numbers of a type, and those that an operation takes for numbers of it.
use Rattle.std.proofs.Common.{◌≡◌, ◌∙◌, ◌<◌, ℕ, suc, ◌-◌, ◌^◌, ◌/◌, Bool, true, false, ◌&&◌, ap, ℤ, pos, negsuc, ◌≤ℤ◌, neg_ℤ, refl, arith}
use Rattle.std.specs.Prelude.{int_lt, int_le, int_rem, unsigned_abs, ◌%◌}
use Rattle.std.specs.Int.{int_shr}
use Rattle.std.proofs.lemmas.Int.{ints}
use Rattle.std.proofs.lemmas.Bool.{false≢true}
use Rattle.std.proofs.lemmas.Nat.{pow_pos}
use Rattle.std.proofs.Math.Nat.{mod-le, div-le_self}
use Rattle.c_token.specs.declared.ctype.CType.{CType}
use Rattle.c_token.specs.declared.ctype.CType.TheVariants as type
use Rattle.c_value.specs.Values.{IsOf, is_of, bits_of, width, is_signed, least, greatest}
use Rattle.ir_core.specs.Value as op
use Rattle.pass_runs.proofs.LowerRuns.OperatorWords.Resizing.{count_is, half_is}

-- ---- tests

pub both_hold : (a b : Bool) → a ≡ true → b ≡ true → (a && b) ≡ true
both_hold a b e f = rw (e, f) refl

pub each_holds : (a b : Bool) → (a && b) ≡ true → (a ≡ true) × (b ≡ true)
each_holds true b e = (refl, e)
each_holds false b e = absurd (false≢true e)

le_out : (a b : ℤ) → int_le a b ≡ true → a ≤ℤ b
le_out a b e = omega (arith, ints, e)

le_in : (a b : ℤ) → a ≤ℤ b → int_le a b ≡ true
le_in a b h = grind (arith, ints)

pub of_type : (k : CType) (n : ℤ) → is_of k n ≡ true → IsOf k n
of_type k n e = let h = each_holds (int_le (least k) n) (int_le n (greatest k)) e in (le_out (least k) n h.0, le_out n (greatest k) h.1)

pub of_type_is : (k : CType) (n : ℤ) → IsOf k n → is_of k n ≡ true
of_type_is k n h = both_hold (int_le (least k) n) (int_le n (greatest k)) (le_in (least k) n h.0) (le_in n (greatest k) h.1)

-- ---- the operation's test is the type's

below_is : (n : ℤ) (m : ℕ) → 0 < m → int_lt n (pos m) ≡ int_le n (pos (m - 1))
below_is n m h = grind (arith, ints)

pub range_is : (k : CType) (n : ℤ) → op.is_of (is_signed k) (width k) n ≡ is_of k n
range_is type.Bool n = ap (λ c. int_le (pos 0) n && c) (below_is n 2 (omega arith))
range_is (type.Int false bits) n =
    ap (λ m. int_le (pos 0) n && int_lt n (pos m)) (count_is (type.Int false bits)) ∙ ap (λ c. int_le (pos 0) n && c) (below_is n (2 ^ bits_of bits) (pow_pos (bits_of bits)))
range_is (type.Int true bits) n =
    ap (λ h. int_le (neg_ℤ (pos h)) n && int_lt n (pos h)) (half_is bits)
    ∙ ap (λ c. int_le (neg_ℤ (pos (2 ^ (bits_of bits - 1)))) n && c) (below_is n (2 ^ (bits_of bits - 1)) (pow_pos (bits_of bits - 1)))

-- ---- what lies between numbers of a type

between : (k : CType) (low n high : ℤ) → IsOf k low → IsOf k high → low ≤ℤ n → n ≤ℤ high → IsOf k n
between k low n high h g above below = let a = h.0 in let b = g.1 in (omega (arith, ints, a, above), omega (arith, ints, b, below))

zero_in : (k : CType) → IsOf k (pos 0)
zero_in type.Bool = (omega (arith, ints), omega (arith, ints))
zero_in (type.Int false bits) = (omega (arith, ints), omega (arith, ints))
zero_in (type.Int true bits) = (omega (arith, ints), omega (arith, ints))

pub remainder_in : (k : CType) (x y : ℤ) → IsOf k x → IsOf k (int_rem x y)
remainder_in k (pos a) y h = let le = mod-le a (unsigned_abs y) in between k (pos 0) (pos (a % unsigned_abs y)) (pos a) (zero_in k) h (omega (arith, ints)) (omega (arith, ints, le))
remainder_in k (negsuc a) y h =
    let le = mod-le (suc a) (unsigned_abs y) in
    between k (negsuc a) (neg_ℤ (pos (suc a % unsigned_abs y))) (pos 0) h (zero_in k) (omega (arith, ints, le)) (omega (arith, ints))

pub shifted_in : (k : CType) (x : ℤ) (count : ℕ) → IsOf k x → IsOf k (int_shr x count)
shifted_in k (pos a) count h = let le = div-le_self a (2 ^ count) in between k (pos 0) (pos (a / 2 ^ count)) (pos a) (zero_in k) h (omega (arith, ints)) (omega (arith, ints, le))
shifted_in k (negsuc a) count h =
    let le = div-le_self a (2 ^ count) in
    between k (negsuc a) (negsuc (a / 2 ^ count)) (pos 0) h (zero_in k) (omega (arith, ints, le)) (omega (arith, ints))
