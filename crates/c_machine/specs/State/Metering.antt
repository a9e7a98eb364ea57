-- What a meter holds for what it shows.
use Rattle.std.specs.Prelude.{◌≡◌, ℕ, ◌+◌, ◌<◌, ◌^◌, List, map, sum_by, All}
use Rattle.hls_base.specs.declared.point.Point.{Point}
use Rattle.hls_base.specs.Tallies.{HasDistinctPoints}
use Rattle.c_machine.specs.declared.state.meter.NumberedPoint.{NumberedPoint}
use Rattle.c_machine.specs.declared.state.meter.Meter.TheInside.{Inside}
use Rattle.c_machine.specs.State.PassedPaths.{PathTable, path_of, IsNumber, IsPathTable}
use Rattle.c_machine.specs.State.Reading.{Reading}

abbrev pub point_of : PathTable → NumberedPoint → Point
point_of calls p = record { path = path_of calls p.path; at = p.at; kind = p.kind }

abbrev pub counts_of : PathTable → List (NumberedPoint × ℕ) → List (Point × ℕ)
counts_of calls rows = map (λ row. (point_of calls row.0, row.1)) rows

abbrev pub HaveNumbers : PathTable → List (NumberedPoint × ℕ) → Type 0
HaveNumbers calls rows = All (λ row. IsNumber calls row.0.path) rows

abbrev pub reading_of : Inside → Reading
reading_of m = record { left = m.left; passed = m.passed; counts = counts_of m.calls.entries m.counts.entries }

-- The counts add up to the points that were passed, and with those that may be passed they fit 64 bits.
pub record AreSound (left passed : ℕ) (calls : PathTable) (rows : List (NumberedPoint × ℕ)) : Type 0 where
  pub calls_known : IsPathTable calls
  pub numbers : HaveNumbers calls rows
  pub sum : sum_by (λ row. row.1) rows ≡ passed
  pub fits : left + passed < 2 ^ 64
  pub distinct : HasDistinctPoints (counts_of calls rows)

abbrev pub IsSound : Inside → Type 0
IsSound m = AreSound m.left m.passed m.calls.entries m.counts.entries
