-- When values are there, and what it is that they share registers.
use Rattle.std.specs.Prelude.{◌≡◌, ℕ, ◌+◌, ◌*◌, ◌<◌, ◌≤◌, ◌⊎◌, List, length, slice_index, slice_index_or, Option, None, Some}
use Rattle.reg_binding.specs.declared.life.Life.{Life}

-- an iteration of a loop with this period has its value there in this cycle
abbrev pub IsInIteration : ℕ → Life → ℕ → Type 0
IsInIteration period life time = (n : ℕ) × (life.start + n * period ≤ time) × (time < life.start + n * period + life.length)

-- The value is there in this cycle of a block, or of a loop with this period: the value from before the loop, or that of an iteration.
abbrev pub IsThere : Option ℕ → Life → ℕ → Type 0
IsThere None life time = (life.start ≤ time) × (time < life.start + life.length)
IsThere (Some period) life time = (time < life.entry) ⊎ IsInIteration period life time

-- two values are there in one cycle
pub record Meet (period : Option ℕ) (one other : Life) : Type 0 where
  pub time : ℕ
  pub there : IsThere period one time
  pub there_too : IsThere period other time

-- iterations do not begin all at once
abbrev pub IsPeriod : Option ℕ → Type 0
IsPeriod None = Unit {0}
IsPeriod (Some period) = 0 < period

abbrev pub no_life : Life
no_life = record { first = 0; op = 0; place = 0; width = 0; start = 0; length = 0; entry = 0 }

abbrev pub life_at : List Life → ℕ → Life
life_at lives i = slice_index_or lives i no_life

-- the first n values have registers of their widths, in which no two of them meet, and of which no lower one was free
pub record IsShared (period : Option ℕ) (lives : List Life) (n : ℕ) (widths choices : List ℕ) : Type 0 where
  pub count : length choices ≡ n
  pub inside : (i : ℕ) → i < n → slice_index choices i < length widths
  pub fits : (i : ℕ) → i < n → slice_index widths (slice_index choices i) ≡ (life_at lives i).width
  pub apart : (i j : ℕ) → i < j → j < n → slice_index choices i ≡ slice_index choices j → Meet period (life_at lives i) (life_at lives j) → ⊥
  pub lowest : (j k : ℕ) → j < n → k < slice_index choices j → slice_index widths k ≡ (life_at lives j).width →
      (i : ℕ) × (i < j) × (slice_index choices i ≡ k) × Meet period (life_at lives i) (life_at lives j)
