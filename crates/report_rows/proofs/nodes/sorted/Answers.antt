use Rattle.std.proofs.Common.{rules}
use Rattle.std.specs.Ordering.{is_lt}
use Rattle.std.proofs.lemmas.List.Sorted.{IsPermutation-map}
use Rattle.cycle_report.specs.declared.report.LoopRow.{LoopRow}
use Rattle.cycle_report.specs.PlainReport.{PlainLoop, loop_of}
use Rattle.report_rows.specs.Points.{point_order}
use Rattle.report_rows.proofs.Sorting.{sorted_by_point}
use Rattle.report_rows.proofs.SortedRows.{sorted_map}
use Rattle.report_rows.proofs.nodes.sorted.Goals as goal

pub returns-clause-moved : goal.returns-clause-moved
returns-clause-moved c = IsPermutation-map loop_of _ _ c.in_ok-sort_by.ensures.permutation

pub returns-clause-sorted : goal.returns-clause-sorted
returns-clause-sorted c =
    sorted_map loop_of (λ (x y : PlainLoop). is_lt (point_order x.point y.point)) c.sort_by.new.self.items
    (sorted_by_point (λ (row : LoopRow). row.point) _ c.in_ok-sort_by.ensures.sorted (λ a r q k. search rules))
