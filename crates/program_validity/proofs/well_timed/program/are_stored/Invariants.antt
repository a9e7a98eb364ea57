use Rattle.std.proofs.Common.{◌≡◌, drop}
use Rattle.std.specs.List.{list_all}
use Rattle.program_validity.specs.Nodes.{is_stored_before}
use Rattle.program_validity.proofs.well_timed.program.are_stored.Given as goal

abbrev pub invariant-loop-op : goal.invariant-loop-op
invariant-loop-op l = list_all (is_stored_before l.time) (drop l.op-index l.ops) ≡ list_all (is_stored_before l.time) l.ops
