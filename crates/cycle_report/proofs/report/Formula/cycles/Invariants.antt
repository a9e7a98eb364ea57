use Rattle.std.proofs.Common.{◌≡◌, ◌<◌, ◌^◌, take}
use Rattle.cycle_report.specs.FormulaValue.{cycles}
use Rattle.cycle_report.proofs.report.Formula.cycles.Given as goal

abbrev pub invariant-loop-row : goal.invariant-loop-row
invariant-loop-row l = record {
  value : l.total ≡ cycles l.self.base (take l.row-index l.self.rows.items) l.tally;
  fits : l.total < 2 ^ 128;
}
