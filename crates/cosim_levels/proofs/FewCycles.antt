-- How many cycles a report's formula gives at most for a run of so many points.
use Rattle.std.proofs.Common.{ℕ, suc, ◌+◌, ◌*◌, ◌^◌, ◌<◌, ◌≤◌, Bool, true, false, List, [], ◌∷◌, ◌++◌, length, if◌then◌else◌, sym, ap, subst, arith}
use Rattle.std.specs.List.{All, sum_by}
use Rattle.std.proofs.lemmas.List.{length-append}
use Rattle.std.proofs.lemmas.List.Elements.{All-head, All-tail}
use Rattle.std.proofs.lemmas.List.Sums.{sum_by-cons}
use Rattle.std.proofs.lemmas.Nat.{mul-le}
use Rattle.hls_base.specs.FileScope.{FileScope}
use Rattle.hls_base.specs.Tallies.{same_point, count_in}
use Rattle.hls_base.specs.declared.point.Point.{Point}
use Rattle.c_tree.specs.Tree.{ProgramTree}
use Rattle.c_meaning.specs.declared.outcome.Final.{Final}
use Rattle.c_meaning.specs.Laws.{IsKept}
use Rattle.c_meaning.specs.Points.{tally_of, times}
use Rattle.c_meaning.specs.Run as run
use Rattle.c_meaning.specs.Run.{Answer, c_run}
use Rattle.c_meaning.proofs.MoreInRuns.{more_points_keep_answers}
use Rattle.c_meaning.proofs.Tallies.{count_in-tally_of}
use Rattle.cycle_report.specs.declared.report.Cost.{Cost}
use Rattle.cycle_report.specs.PlainReport.{PlainReport}
use Rattle.cycle_report.specs.ReportForm.{FitsCost, IsReport, largest_report}
use Rattle.cycle_report.specs.ReportText.{lines_of, cost_line, report_text, head_lines, init_line, loop_lines, units_line, memory_line, last_lines}
use Rattle.cycle_report.specs.FormulaValue.{cycles}
use Rattle.cosim_levels.specs.Levels.{EndsWith}

-- ---- no point is passed more often than all are

times_low : (trace : List Point) (q : Point) → times trace q ≤ length trace
times_low [] q = omega arith
times_low (p ∷ trace) q = either (same_point p q) (times_low trace q)
  where
    either : (b : Bool) → times trace q ≤ length trace → (if b then times trace q + 1 else times trace q) ≤ suc (length trace)
    either true low = omega (arith, low)
    either false low = omega (arith, low)

trace_low : (n : ℕ) (a later : Answer) (final : Final) (ends : EndsWith a final) → IsKept n a later → length ends.trace ≤ n
trace_low n a later final ends kept =
    let ended : IsKept n (run.ended final.ret final.arrays ends.kept ends.trace) later = subst (λ x. IsKept n x later) ends.is kept in
    ended.1

-- a run of at most n points passes each of them at most n times
pub passed_low : (p : ProgramTree) (top : ℕ) (kept : FileScope) (scalars : List ℕ) (arrays : List (List ℕ)) (n : ℕ) (final : Final) → EndsWith (c_run p top kept scalars arrays n) final
    → (q : Point) → count_in final.tally q ≤ n
passed_low p top kept scalars arrays n final ends q =
    let few = trace_low n (c_run p top kept scalars arrays n) (c_run p top kept scalars arrays (n + 0)) final ends (more_points_keep_answers p top kept scalars arrays n 0) in
    let count = count_in-tally_of ends.trace q in
    let low = times_low ends.trace q in
    let all : count_in (tally_of ends.trace) q ≤ n = omega (arith, few, count, low) in
    subst (λ t. count_in t q ≤ n) (sym ends.tally) all

-- ---- the rows of a report are no more than its bytes

some_bytes : (row : Cost) → 1 ≤ length (cost_line row)
some_bytes row = omega arith

rows_low : (rows : List Cost) → length rows ≤ length (lines_of cost_line rows)
rows_low [] = omega arith
rows_low (row ∷ rows) =
    let whole = length-append (cost_line row) (lines_of cost_line rows) in
    let first = some_bytes row in
    let rest = rows_low rows in
    omega (arith, whole, first, rest)

inside : (a b c d : List ℕ) → length c ≤ length (a ++ (b ++ (c ++ d)))
inside a b c d =
    let x = length-append a (b ++ (c ++ d)) in
    let y = length-append b (c ++ d) in
    let z = length-append c d in
    omega (arith, x, y, z)

pub few_rows : (bytes : List ℕ) (r : PlainReport) → IsReport bytes r → length bytes ≤ largest_report → length r.rows ≤ largest_report
few_rows bytes r is small =
    let own = rows_low r.rows in
    let within : length (lines_of cost_line r.rows) ≤ length (report_text r) = inside (head_lines r.settings r.base) (init_line r.init) (lines_of cost_line r.rows)
    (lines_of loop_lines r.loops ++ (units_line r.units ++ (lines_of memory_line r.memories ++ last_lines r.registers))) in
    let same = ap (λ (b : List ℕ). length b) is.text in
    omega (arith, own, within, same, small)

-- ---- so many rows, each passed so often

sum_low : (tally : List (Point × ℕ)) (n : ℕ) → ((q : Point) → count_in tally q ≤ n) → (rows : List Cost) → All FitsCost rows → sum_by (λ (row : Cost). row.cost * count_in tally row.point) rows ≤ length rows * (2 ^ 64 * n)
sum_low tally n passed [] fit = omega arith
sum_low tally n passed (row ∷ rows) fit =
    let own = All-head FitsCost row rows fit in
    let cost = own.cost in
    let first : row.cost * count_in tally row.point ≤ 2 ^ 64 * n = mul-le row.cost (count_in tally row.point) (2 ^ 64) n (omega (arith, cost)) (passed row.point) in
    let rest = sum_low tally n passed rows (All-tail FitsCost row rows fit) in
    let whole = sum_by-cons (λ (r : Cost). r.cost * count_in tally r.point) row rows in
    omega (arith, first, rest, whole)

-- A formula of a report gives fewer than 2^127 cycles for a run of at most 1,000,000,000 points.
pub cycles_low : (bytes : List ℕ) (r : PlainReport) (tally : List (Point × ℕ)) (n : ℕ) → IsReport bytes r → length bytes ≤ largest_report → n ≤ 1000000000 → ((q : Point) → count_in tally q ≤ n)
    → cycles r.base r.rows tally < 2 ^ 127
cycles_low bytes r tally n is small few passed =
    let sum = sum_low tally n passed r.rows is.fits.rows in
    let rows = few_rows bytes r is small in
    let base = is.fits.base in
    let each : 2 ^ 64 * n ≤ 2 ^ 64 * 1000000000 = mul-le (2 ^ 64) n (2 ^ 64) 1000000000 (omega arith) few in
    let all : length r.rows * (2 ^ 64 * n) ≤ 16777216 * (2 ^ 64 * 1000000000) = mul-le (length r.rows) (2 ^ 64 * n) 16777216 (2 ^ 64 * 1000000000) rows each in
    omega (arith, sum, all, base)
