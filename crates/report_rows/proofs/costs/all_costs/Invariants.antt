use Rattle.std.proofs.Common.{◌≡◌, ◌≤◌, ◌*◌, ◌^◌, take}
use Rattle.std.specs.List.{flat_map}
use Rattle.report_rows.specs.Costs.{weighed, once, some_costs}
use Rattle.report_rows.proofs.costs.all_costs.Given as goal

abbrev pub invariant-loop-node : goal.invariant-loop-node
invariant-loop-node l = record {
  costs : l.costs.items ≡ flat_map some_costs (take l.node-index l.nodes);
  small : weighed once l.costs.items ≤ l.node-index * 2 ^ 33;
}
