-- Which variables a set has, and what it gains or loses.
use Rattle.std.specs.Prelude.{◌≡◌, ℕ, ◌+◌, ◌-◌, ◌^◌, ◌/◌, ◌%◌, ◌<◌, ◌==◌, ◌&&◌, ◌||◌, not, nat_lt, Bool, false, List, [], ◌∷◌, slice_index, Option, Some, None}
use Rattle.std.specs.Int.{bit_at}
use Rattle.reg_binding.specs.declared.var_set.VarSet.{VarSet}

abbrev pub has_bit : List ℕ → ℕ → Bool
has_bit words n = bit_at (slice_index words (n / 64)) (n % 64) == 1

-- the set has the variable of this number
abbrev pub has : VarSet → ℕ → Bool
has set n = nat_lt n set.variables && has_bit set.words.items n

-- How far words of 64 bits are from having all bits: the sum of the numbers that the missing bits make.
abbrev pub free_bits : List ℕ → ℕ
free_bits [] = 0
free_bits (word ∷ words) = (2 ^ 64 - word) + free_bits words

abbrev pub has_in : Option VarSet → ℕ → Bool
has_in None n = false
has_in (Some set) n = has set n

-- the set becomes one that has besides those of its variables that pass the test
pub record Gains (before after : VarSet) (test : ℕ → Bool) : Type 0 where
  pub count : after.variables ≡ before.variables
  pub members : (n : ℕ) → n < before.variables → has after n ≡ (has before n || test n)

-- the set becomes one that lacks those that pass the test
pub record Loses (before after : VarSet) (test : ℕ → Bool) : Type 0 where
  pub count : after.variables ≡ before.variables
  pub members : (n : ℕ) → n < before.variables → has after n ≡ (has before n && not (test n))
