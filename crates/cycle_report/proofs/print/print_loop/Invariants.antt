use Rattle.std.proofs.Common.{◌≡◌, ◌++◌, take}
use Rattle.std.specs.List.{All}
use Rattle.cycle_report.specs.ReportForm.{FitsEdge}
use Rattle.cycle_report.specs.ReportText as text
use Rattle.cycle_report.proofs.print.print_loop.Given as goal

abbrev pub invariant-loop-edge : goal.invariant-loop-edge
invariant-loop-edge l = record {
  text : l.out.items ≡ l.initial.out.items ++ text.lines_of text.edge_line (take l.edge-index l.row.cycle.items);
  fits : All FitsEdge (take l.edge-index l.row.cycle.items);
}
