use Rattle.std.proofs.Common.{◌≡◌, [], take, drop}
use Rattle.program_validity.specs.Bodies.{are_operations}
use Rattle.program_validity.proofs.bodies.are_operations.Given as goal

abbrev pub invariant-loop-index : goal.invariant-loop-index
invariant-loop-index g l = are_operations l.frame l.carried (take l.index l.ops) (drop l.index l.ops) ≡ are_operations l.frame l.carried [] l.ops
