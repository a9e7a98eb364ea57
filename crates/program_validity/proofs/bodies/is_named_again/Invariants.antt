use Rattle.std.proofs.Common.{◌≡◌, drop}
use Rattle.program_validity.specs.Bodies.{is_named_again}
use Rattle.program_validity.proofs.bodies.is_named_again.Given as goal

abbrev pub invariant-loop-other : goal.invariant-loop-other
invariant-loop-other l = is_named_again l.out (drop l.other-index l.outs) ≡ is_named_again l.out l.outs
