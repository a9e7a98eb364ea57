use Rattle.std.proofs.Common.{◌≡◌, drop}
use Rattle.program_validity.specs.Bodies.{name_different}
use Rattle.program_validity.proofs.bodies.name_different.Given as goal

abbrev pub invariant-loop-index : goal.invariant-loop-index
invariant-loop-index l = name_different (drop l.index l.outs) ≡ name_different l.outs
