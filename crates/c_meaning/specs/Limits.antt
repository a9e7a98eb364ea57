-- Lengths of dimensions that a program without faults has.
use Rattle.std.specs.Prelude.{ℕ, ◌<◌, ◌≤◌, List, All}
use Rattle.hls_base.specs.ArrayAddress.{element_count}

-- each at least 1, and at most 65,536 elements together
pub record IsWithinLimits (lengths : List ℕ) : Type 0 where
  pub positive : All (λ n. 0 < n) lengths
  pub count : element_count lengths ≤ 65536
