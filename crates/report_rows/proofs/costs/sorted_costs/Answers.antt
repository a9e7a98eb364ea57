use Rattle.std.proofs.Common.{rules}
use Rattle.cycle_report.specs.declared.report.Cost.{Cost}
use Rattle.report_rows.proofs.Sorting.{sorted_by_point}
use Rattle.report_rows.proofs.costs.sorted_costs.Goals as goal

pub returns-clause-sorted : goal.returns-clause-sorted
returns-clause-sorted c = sorted_by_point (λ (cost : Cost). cost.point) _ c.in_ok-sort_by.ensures.sorted (λ a r q k. search rules)
