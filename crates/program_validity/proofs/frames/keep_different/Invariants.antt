use Rattle.std.proofs.Common.{◌≡◌, drop}
use Rattle.program_validity.specs.Frames.{keep_different}
use Rattle.program_validity.proofs.frames.keep_different.Given as goal

abbrev pub invariant-loop-index : goal.invariant-loop-index
invariant-loop-index l = keep_different (drop l.index l.kept) ≡ keep_different l.kept
