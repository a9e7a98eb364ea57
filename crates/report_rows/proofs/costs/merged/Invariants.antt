use Rattle.std.proofs.Common.{◌≡◌, ◌++◌, []}
use Rattle.report_rows.specs.Costs.{merged_behind}
use Rattle.report_rows.proofs.costs.merged.Given as goal

abbrev pub invariant-loop-cost : goal.invariant-loop-cost
invariant-loop-cost l = record {
  merged : l.rows.items ≡ merged_behind [] l.yielded;
  rest : l.yielded ++ l.cost-iterator.rest.items ≡ l.fn.costs.items;
}
