use Rattle.std.proofs.Common.{◌≡◌, map, take}
use Rattle.stage_runs.specs.Points.{counted}
use Rattle.stage_runs.proofs.points.point_counts.Given as goal

abbrev pub invariant-loop-node : goal.invariant-loop-node
invariant-loop-node l = l.counts.items ≡ map (counted l.tally l.in_c) (take l.node-index l.nodes)
