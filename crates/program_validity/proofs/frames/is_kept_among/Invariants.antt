use Rattle.std.proofs.Common.{◌≡◌, drop}
use Rattle.program_validity.specs.Frames.{is_kept_among}
use Rattle.program_validity.proofs.frames.is_kept_among.Given as goal

abbrev pub invariant-loop-other : goal.invariant-loop-other
invariant-loop-other l = is_kept_among l.variable (drop l.other-index l.kept) ≡ is_kept_among l.variable l.kept
