use Rattle.std.proofs.Common.{◌≡◌, ◌+◌, ◌≤◌, drop}
use Rattle.std.specs.List.{count_by}
use Rattle.program_validity.specs.Targets.{leads_to}
use Rattle.program_validity.proofs.targets.count_leading.Given as goal

abbrev pub invariant-loop-from : goal.invariant-loop-from
invariant-loop-from g l = (l.count + count_by (leads_to l.node) (drop l.from-index l.nodes) ≡ count_by (leads_to l.node) l.nodes) × (l.count ≤ l.from-index)
