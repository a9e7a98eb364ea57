-- The number of cycles that a formula gives.
use Rattle.std.specs.Prelude.{ℕ, ◌+◌, ◌*◌, List}
use Rattle.std.specs.List.{sum_by}
use Rattle.hls_base.specs.declared.point.Point.{Point}
use Rattle.hls_base.specs.Tallies.{count_in}
use Rattle.cycle_report.specs.declared.report.Cost.{Cost}

abbrev pub cycles : ℕ → List Cost → List (Point × ℕ) → ℕ
cycles base rows tally = base + sum_by (λ row. row.cost * count_in tally row.point) rows
