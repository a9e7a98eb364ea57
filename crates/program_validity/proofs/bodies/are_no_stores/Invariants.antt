use Rattle.std.proofs.Common.{◌≡◌, drop}
use Rattle.std.specs.List.{list_all}
use Rattle.program_validity.specs.Bodies.{is_no_store}
use Rattle.program_validity.proofs.bodies.are_no_stores.Given as goal

abbrev pub invariant-loop-op : goal.invariant-loop-op
invariant-loop-op g l = list_all is_no_store (drop l.op-index l.ops) ≡ list_all is_no_store l.ops
