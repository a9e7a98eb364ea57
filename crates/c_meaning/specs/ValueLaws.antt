-- Laws of values: what conversions and divisions give.
use Rattle.std.specs.Prelude.{◌≡◌, ℕ, ◌*◌, ◌^◌, ◌<◌, Bool, ℤ, pos, ◌+ℤ◌, ◌*ℤ◌, ◌≤ℤ◌, unsigned_abs, int_div, int_rem}
use Rattle.c_token.specs.declared.ctype.CType.{CType}
use Rattle.c_value.specs.Values.{integer, width, convert, IsOf}

-- the same number but for multiples of 2^width
pub record IsCongruent (kind : CType) (n m : ℤ) : Type 0 where
  pub before : ℕ
  pub behind : ℕ
  pub same : n +ℤ pos (before * 2 ^ width kind) ≡ m +ℤ pos (behind * 2 ^ width kind)

-- A conversion to an integer type gives the one number of the type that is congruent to the number, C11 6.3.1.3.
pub record Converted (kind : CType) (n : ℤ) : Type 0 where
  pub is_of : IsOf kind (convert kind n)
  pub congruent : IsCongruent kind n (convert kind n)
  pub only : (m : ℤ) → IsOf kind m → IsCongruent kind n m → m ≡ convert kind n

abbrev pub ConversionsAreCongruent : Type 0
ConversionsAreCongruent = (signed : Bool) (bits : ℕ) (n : ℤ) → Converted (integer signed bits) n

-- A quotient is rounded toward zero, and the remainder is what is left, with the dividend's sign, C11 6.5.5 paragraph 6.
pub record Divided (x y : ℤ) : Type 0 where
  pub whole : int_div x y *ℤ y +ℤ int_rem x y ≡ x
  pub below : unsigned_abs (int_rem x y) < unsigned_abs y
  pub not_negative : pos 0 ≤ℤ x → pos 0 ≤ℤ int_rem x y
  pub not_positive : x ≤ℤ pos 0 → int_rem x y ≤ℤ pos 0

abbrev pub DivisionsTruncate : Type 0
DivisionsTruncate = (x y : ℤ) → 0 < unsigned_abs y → Divided x y
