-- How far a restoring division has come. Each step makes one bit of the quotient, the highest one first.
use Rattle.std.specs.Prelude.{◌≡◌, ℕ, ◌+◌, ◌-◌, ◌*◌, ◌^◌, ◌<◌, Bool, true, false, not, ◌&&◌}
use Rattle.datapath.specs.Cycles.{Steps, Dividend, Remainder, Divisor, QuotientSign, RemainderSign, Contents, bit}
use Rattle.datapath.specs.Units.{top_bit, negated_if}

-- ---- numbers without signs

-- After n steps of a division of numbers of so many bits the top n bits of the dividend are divided. The others are left, and stand above the bits of the quotient.
pub record IsDivided (bits n dividend divisor left remainder : ℕ) : Type 0 where
  pub upper : ℕ
  pub lower : ℕ
  pub quotient : ℕ
  pub parts : dividend ≡ upper * 2 ^ (bits - n) + lower
  pub upper_fits : upper < 2 ^ n
  pub lower_fits : lower < 2 ^ (bits - n)
  pub divided : upper ≡ quotient * divisor + remainder
  pub quotient_fits : quotient < 2 ^ n
  pub proper : 0 < divisor → remainder < divisor
  pub by_zero : divisor ≡ 0 → quotient + 1 ≡ 2 ^ n
  pub left_is : left ≡ lower * 2 ^ n + quotient

-- ---- signs

-- the pattern stands for a negative number
abbrev pub is_negative : Bool → ℕ → ℕ → Bool
is_negative signed bits x = signed && top_bit bits x

-- the absolute value of the number for which the pattern stands
abbrev pub absolute : Bool → ℕ → ℕ → ℕ
absolute signed bits x = negated_if (is_negative signed bits x) bits x

-- one of two signs is negative
abbrev pub differ : Bool → Bool → Bool
differ true b = not b
differ false b = b

-- ---- dividers

-- the divider is n steps on in the division of these patterns
pub record IsDividing (signed : Bool) (bits unit dividend divisor n : ℕ) (x : Contents) : Type 0 where
  pub steps : x.regs (Steps bits unit) ≡ bits - n
  pub divisor_ : x.regs (Divisor bits unit) ≡ absolute signed bits divisor
  pub divided : IsDivided bits n (absolute signed bits dividend) (absolute signed bits divisor) (x.regs (Dividend bits unit)) (x.regs (Remainder bits unit))
  pub quotient_sign : x.regs (QuotientSign bits unit) ≡ bit (differ (is_negative signed bits dividend) (is_negative signed bits divisor))
  pub remainder_sign : x.regs (RemainderSign bits unit) ≡ bit (is_negative signed bits dividend)
