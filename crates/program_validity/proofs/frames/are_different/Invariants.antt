use Rattle.std.proofs.Common.{◌≡◌, drop}
use Rattle.program_validity.specs.Frames.{are_different}
use Rattle.program_validity.proofs.frames.are_different.Given as goal

abbrev pub invariant-loop-index : goal.invariant-loop-index
invariant-loop-index l = are_different (drop l.index l.variables) ≡ are_different l.variables
