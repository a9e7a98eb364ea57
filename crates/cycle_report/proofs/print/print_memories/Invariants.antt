use Rattle.std.proofs.Common.{◌≡◌, ◌++◌, take}
use Rattle.std.specs.List.{All}
use Rattle.cycle_report.specs.ReportForm.{FitsMemory}
use Rattle.cycle_report.specs.ReportText as text
use Rattle.cycle_report.proofs.print.print_memories.Given as goal

abbrev pub invariant-loop-row : goal.invariant-loop-row
invariant-loop-row l = record {
  text : l.out.items ≡ l.initial.out.items ++ text.lines_of text.memory_line (take l.row-index l.rows);
  fits : All FitsMemory (take l.row-index l.rows);
}
