-- What saved values read.
use Rattle.std.specs.Prelude.{◌≡◌, ℕ, ◌<◌, ◌≤◌, ◌⊎◌, Bool, true}

-- What is left when a value is saved reads what the value read, no variable of file scope before calls, and variables of its own.
abbrev pub IsKept : (ℕ → Type 0) → ℕ → Bool → ℕ → ℕ → ℕ → Type 0
IsKept P n calls low high i = (P i × (calls ≡ true → n ≤ i)) ⊎ ((low ≤ i) × (i < high))
