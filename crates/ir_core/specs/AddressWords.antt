-- Addresses as 64-bit numbers.
use Rattle.std.specs.Prelude.{ℕ, zero, suc, ◌+◌, ◌%◌, ◌^◌, ◌≤◌, List, [], ◌∷◌, ◌++◌, map}

abbrev pub in_words : List ℕ → List ℕ
in_words xs = map (λ a. a % 2 ^ 64) xs

-- the addresses of so many rows, where the first begins at this address and the next ones so far behind
abbrev pub rows_at : ℕ → ℕ → List ℕ → ℕ → List ℕ
rows_at start size row zero = []
rows_at start size row (suc n) = map (λ low. (start + low) % 2 ^ 64) row ++ rows_at ((start + size) % 2 ^ 64) size row n

-- each dimension has at most 65,536 places
abbrev pub AreShort : List ℕ → Type 0
AreShort [] = Unit {0}
AreShort (len ∷ dims) = (len ≤ 65536) × AreShort dims

-- each number is higher than the one before; the first is at least the one bound, and all are below the other
abbrev pub AreRising : ℕ → List ℕ → ℕ → Type 0
AreRising low [] high = low ≤ high
AreRising low (x ∷ xs) high = (low ≤ x) × AreRising (suc x) xs high
