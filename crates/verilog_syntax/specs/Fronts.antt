-- What stands at the front of some bytes.
use Rattle.std.specs.Prelude.{◌≡◌, ℕ, ◌+◌, ◌<◌, ◌≤◌, List, length, take, drop, slice_index, Option, Some, None}
use Rattle.std.specs.List.{prefix_len}
use Rattle.rtl_core.specs.ModuleTokens.{number_value}
use Rattle.verilog_syntax.specs.Characters.{is_hex_digit}

-- `*/` stands at byte k
abbrev pub Closes : List ℕ → ℕ → Type 0
Closes bytes k = (k + 1 < length bytes) × (slice_index bytes k ≡ 42) × (slice_index bytes (k + 1) ≡ 47)

-- the first `*/` stands there, or there is none
abbrev pub ClosesFirst : List ℕ → Option ℕ → Type 0
ClosesFirst bytes None = (k : ℕ) → Closes bytes k → ⊥
ClosesFirst bytes (Some n) = Closes bytes n × ((k : ℕ) → k < n → Closes bytes k → ⊥)

-- the hexadecimal digits behind the first two bytes
abbrev pub hex_digits : List ℕ → List ℕ
hex_digits behind = take (prefix_len is_hex_digit (drop 2 behind)) (drop 2 behind)

-- `'h` and digits stand behind a size that a constant may have
pub record StandsConstant (size behind : List ℕ) : Type 0 where
  pub mark : 2 ≤ length behind
  pub quote : slice_index behind 0 ≡ 39
  pub letter : slice_index behind 1 ≡ 104
  pub some : 0 < length (hex_digits behind)
  pub low : 1 ≤ number_value size
  pub high : number_value size ≤ 128
