use Rattle.std.proofs.Common.{◌≡◌, ◌++◌, map, drop}
use Rattle.std.specs.List.{zip}
use Rattle.reg_binding.specs.Assigned.{row}
use Rattle.reg_binding.proofs.assign.add_rows.Given as goal

abbrev pub invariant-loop-number : goal.invariant-loop-number
invariant-loop-number l =
    l.held.items ++ map (row l.node.0) (zip (drop l.number l.lives) (drop l.number l.choices)) ≡ l.initial.held.items ++ map (row l.node.0) (zip l.lives l.choices)
