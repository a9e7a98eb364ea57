-- The value of a formula, row by row.
use Rattle.std.proofs.Common.{◌≡◌, ℕ, ◌+◌, ◌*◌, ◌<◌, ◌≤◌, List, length, take, get_or, ap, arith}
use Rattle.std.specs.List.{sum_by}
use Rattle.std.proofs.lemmas.List.Sums.{sum_by_more, sum_by-take-le}
use Rattle.hls_base.specs.declared.point.Point.{Point}
use Rattle.cycle_report.specs.declared.report.Cost.{Cost}
use Rattle.hls_base.specs.Tallies.{count_in}
use Rattle.cycle_report.specs.FormulaValue.{cycles}

abbrev row_cycles : List (Point × ℕ) → Cost → ℕ
row_cycles tally row = row.cost * count_in tally row.point

-- one row more
pub cycles_more : (base : ℕ) (rows : List Cost) (tally : List (Point × ℕ)) (i : ℕ) (row : Cost) (total : ℕ) → i < length rows → row ≡ get_or rows i row →
    total ≡ cycles base (take i rows) tally → total + row.cost * count_in tally row.point ≡ cycles base (take (i + 1) rows) tally
cycles_more base rows tally i row total h is e =
    let m : sum_by (row_cycles tally) (take (i + 1) rows) ≡ sum_by (row_cycles tally) (take i rows) + row_cycles tally (get_or rows i row) = sum_by_more (row_cycles tally) rows i row h in
    let r : row_cycles tally row ≡ row_cycles tally (get_or rows i row) = ap (row_cycles tally) is in
    omega (arith, m, r, e)

-- the first rows cost no more than all
pub cycles_of_first : (base : ℕ) (rows : List Cost) (tally : List (Point × ℕ)) (i : ℕ) → cycles base (take i rows) tally ≤ cycles base rows tally
cycles_of_first base rows tally i = omega (arith, sum_by-take-le (row_cycles tally) rows i)
