use Rattle.std.proofs.Common.{◌≡◌, take}
use Rattle.std.specs.List.{All}
use Rattle.stage_runs.proofs.comparison.are_counted_alike.Given as goal

abbrev pub invariant-loop-point : goal.invariant-loop-point
invariant-loop-point l = All (λ p. p.count ≡ p.in_c) (take l.point-index l.points)
