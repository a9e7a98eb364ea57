-- What a meter shows.
use Rattle.std.specs.Prelude.{ℕ, List}
use Rattle.hls_base.specs.declared.point.Point.{Point}

-- how many more points may be passed, how many were, and how often each, in the order in which they were first passed
pub record Reading : Type 0 where
  pub left : ℕ
  pub passed : ℕ
  pub counts : List (Point × ℕ)
