use Rattle.std.proofs.Common.{◌≡◌, ◌++◌, take}
use Rattle.std.specs.List.{All}
use Rattle.cycle_report.specs.ReportForm.{FitsCost}
use Rattle.cycle_report.specs.ReportText as text
use Rattle.cycle_report.proofs.print.print_costs.Given as goal

abbrev pub invariant-loop-row : goal.invariant-loop-row
invariant-loop-row l = record {
  text : l.out.items ≡ l.initial.out.items ++ text.lines_of text.cost_line (take l.row-index l.rows);
  fits : All FitsCost (take l.row-index l.rows);
}
