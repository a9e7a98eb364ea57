use Rattle.std.proofs.Common.{take}
use Rattle.std.specs.List.{All}
use Rattle.stage_runs.specs.Agreement.{Agrees}
use Rattle.stage_runs.proofs.comparison.first_among.Given as goal

abbrev pub invariant-loop-stage : goal.invariant-loop-stage
invariant-loop-stage l = All (Agrees l.ended) (take l.stage-index l.stages)
