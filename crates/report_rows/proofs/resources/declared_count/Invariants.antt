use Rattle.std.proofs.Common.{◌≡◌, ◌≤◌, take, length}
use Rattle.report_rows.specs.Resources.{declared_names}
use Rattle.report_rows.proofs.resources.declared_count.Given as goal

abbrev pub invariant-loop-declared : goal.invariant-loop-declared
invariant-loop-declared l = record {
  count : l.count ≡ length (declared_names (take l.declared-index l.memories));
  few : l.count ≤ l.declared-index;
}
