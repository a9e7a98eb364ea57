-- The widths of C's types.
use Rattle.std.specs.Prelude.{◌==◌, ◌||◌, nat_lt, nat_le, nat_eq}
use Rattle.std.proofs.Common.{◌≡◌, ◌<◌, ℕ, Bool, true, false, refl, subst, arith, if◌then◌else◌}
use Rattle.std.proofs.lemmas.Bool.{ltb-false, leb-true, eqb-false}
use Rattle.c_token.specs.declared.ctype.CType.{CType}
use Rattle.c_token.specs.declared.ctype.CType.TheVariants as type
use Rattle.c_value.specs.Values.{integer, bits_of, width, promoted}
use Rattle.ir_core.specs.Value.{count_of}
use Rattle.program_validity.specs.Widths.{is_width}

abbrev is_wide : ℕ → Bool
is_wide bits = (bits == 32) || (bits == 64)

pub width_is : (k : CType) → is_width (width k) ≡ true
width_is type.Bool = refl
width_is (type.Int signed bits) = by (nat_le bits 8) (nat_le bits 16) (nat_le bits 32) where
  by : (a b c : Bool) → is_width (if a then 8 else (if b then 16 else (if c then 32 else 64))) ≡ true
  by true b c = refl
  by false true c = refl
  by false false true = refl
  by false false false = refl

-- 0 is a word of each type
pub zero_fits : (k : CType) → 0 < count_of (width k)
zero_fits type.Bool = omega arith
zero_fits (type.Int signed bits) = by (nat_le bits 8) (nat_le bits 16) (nat_le bits 32) where
  by : (a b c : Bool) → 0 < count_of (if a then 8 else (if b then 16 else (if c then 32 else 64)))
  by true b c = omega arith
  by false true c = omega arith
  by false false true = omega arith
  by false false false = omega arith

true_false : {A : Type 0} → true ≡ false → A
true_false e = cc

-- ---- promoted types

-- more bits than these
above : (bits n : ℕ) → nat_lt bits 32 ≡ false → n < 32 → nat_le bits n ≡ false
above bits n e l = by (nat_le bits n) refl where
  by : (c : Bool) → nat_le bits n ≡ c → c ≡ false
  by true q = let h = ltb-false bits 32 e in let k = leb-true bits n q in absurd (omega (arith, h, k, l))
  by false q = refl

promoted_wide : (k : CType) → is_wide (width (promoted k)) ≡ true
promoted_wide type.Bool = refl
promoted_wide (type.Int signed bits) = by (nat_lt bits 32) refl where
  high : (a b c : Bool) → a ≡ false → b ≡ false → is_wide (if a then 8 else (if b then 16 else (if c then 32 else 64))) ≡ true
  high true b c e f = true_false e
  high false true c e f = true_false f
  high false false true e f = refl
  high false false false e f = refl

  by : (c : Bool) → nat_lt bits 32 ≡ c → is_wide (width (if c then integer true 32 else type.Int signed bits)) ≡ true
  by true e = refl
  by false e = high (nat_le bits 8) (nat_le bits 16) (nat_le bits 32) (above bits 8 e (omega arith)) (above bits 16 e (omega arith))

-- a promoted type has 32 or 64 bits
pub wide : (k : CType) → promoted k ≡ k → is_wide (width k) ≡ true
wide k e = subst (λ t. is_wide (width t) ≡ true) e (promoted_wide k)

-- an integer type of another sign and of the width of this one
pub width_again : (signed : Bool) (k : CType) → promoted k ≡ k → width (integer signed (width k)) ≡ width k
width_again signed type.Bool e = absurd cc
width_again signed (type.Int s bits) e = by (nat_le bits 8) (nat_le bits 16) (nat_le bits 32) where
  by : (a b c : Bool) → bits_of (if a then 8 else (if b then 16 else (if c then 32 else 64))) ≡ (if a then 8 else (if b then 16 else (if c then 32 else 64)))
  by true b c = refl
  by false true c = refl
  by false false true = refl
  by false false false = refl

-- ---- two widths

-- widths that are apart, of which the first is not below
pub beyond : (m n : ℕ) → nat_eq m n ≡ false → nat_lt m n ≡ false → n < m
beyond m n e l = let h = eqb-false m n e in let k = ltb-false m n l in omega (arith, h, k)
