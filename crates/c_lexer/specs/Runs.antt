-- How far a row of bytes goes on.
use Rattle.std.specs.Prelude.{◌≡◌, ℕ, ◌+◌, ◌<◌, ◌≤◌, ◌==◌, ◌&&◌, Bool, true, false, List, length, slice_index, Option, Some, None}

-- each of the first n bytes may stand in its place, and the next one may not
abbrev pub IsRun : (List ℕ → ℕ → Bool) → List ℕ → ℕ → Type 0
IsRun may_stand bytes n =
    (n ≤ length bytes) × ((i : ℕ) → i < n → may_stand bytes i ≡ true) × (n < length bytes → may_stand bytes n ≡ false)

-- `*/` stands at byte k
abbrev pub closes : List ℕ → ℕ → Bool
closes bytes k = (slice_index bytes k == 42) && (slice_index bytes (k + 1) == 47)

abbrev pub IsClosed : List ℕ → ℕ → Type 0
IsClosed bytes k = (k + 1 < length bytes) × (closes bytes k ≡ true)

-- the first `*/` behind the first two bytes ends before byte n, or there is none
abbrev pub IsFirstClose : List ℕ → Option ℕ → Type 0
IsFirstClose bytes None = (k : ℕ) → 2 ≤ k → k + 1 < length bytes → closes bytes k ≡ false
IsFirstClose bytes (Some n) =
    (k : ℕ) × (2 ≤ k) × (n ≡ k + 2) × (n ≤ length bytes) × (closes bytes k ≡ true) × ((j : ℕ) → 2 ≤ j → j < k → closes bytes j ≡ false)
