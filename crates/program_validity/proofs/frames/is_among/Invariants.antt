use Rattle.std.proofs.Common.{◌≡◌, drop}
use Rattle.program_validity.specs.Frames.{is_among}
use Rattle.program_validity.proofs.frames.is_among.Given as goal

abbrev pub invariant-loop-other : goal.invariant-loop-other
invariant-loop-other l = is_among l.variable (drop l.other-index l.variables) ≡ is_among l.variable l.variables
