use Rattle.std.proofs.Common.{◌≡◌, drop}
use Rattle.hls_base.specs.Tallies.{count_in}
use Rattle.cycle_report.proofs.formula.count_at.Given as goal

abbrev pub invariant-loop-passed : goal.invariant-loop-passed
invariant-loop-passed l = count_in l.entries l.point ≡ count_in (drop l.passed-index l.entries) l.point
