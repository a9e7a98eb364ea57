use Rattle.std.proofs.Common.{◌≡◌, drop}
use Rattle.dep_graph.specs.Meetings.{distances_from, distances_between}
use Rattle.dep_graph.proofs.access.distances_between.Given as goal

abbrev pub invariant-loop-index : goal.invariant-loop-index
invariant-loop-index l = distances_from l.distances (drop l.index l.from) (drop l.index l.to) ≡ distances_between l.from l.to
