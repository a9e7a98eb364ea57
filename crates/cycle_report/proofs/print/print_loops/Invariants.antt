use Rattle.std.proofs.Common.{◌≡◌, ◌++◌, take, map}
use Rattle.std.specs.List.{All}
use Rattle.cycle_report.specs.PlainReport.{loop_of}
use Rattle.cycle_report.specs.ReportForm.{FitsLoop}
use Rattle.cycle_report.specs.ReportText as text
use Rattle.cycle_report.proofs.print.print_loops.Given as goal

abbrev pub invariant-loop-row : goal.invariant-loop-row
invariant-loop-row l = record {
  text : l.out.items ≡ l.initial.out.items ++ text.lines_of text.loop_lines (map loop_of (take l.row-index l.rows));
  fits : All FitsLoop (map loop_of (take l.row-index l.rows));
}
