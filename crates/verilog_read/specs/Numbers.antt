-- Widths and depths by the digits that declare them.
use Rattle.std.specs.Prelude.{ℕ, zero, suc, ◌+◌, ◌^◌, ◌==◌, List, min, Option, Some, None, if◌then◌else◌}
use Rattle.rtl_core.specs.ModuleTokens.{number_value}

-- The width of `[high:0]`, where 129 stands for every width above 128.
abbrev pub declared_bits : List ℕ → ℕ
declared_bits high = min (suc (number_value high)) 129

-- the first of so many numbers from k on for which 2 to the power of it is the depth
abbrev pub log_from : ℕ → ℕ → ℕ → Option ℕ
log_from zero k depth = None
log_from (suc n) k depth = if depth == 2 ^ k then Some k else log_from n (k + 1) depth

-- The logarithm of the depth of `[0:last]`, if that is a power of 2 that a memory may have.
abbrev pub depth_of : List ℕ → Option ℕ
depth_of last = log_from 16 1 (suc (number_value last))
