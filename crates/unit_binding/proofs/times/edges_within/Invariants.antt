use Rattle.std.proofs.Common.{◌≡◌, take, filter}
use Rattle.std.specs.Prelude.{◌==◌}
use Rattle.unit_binding.proofs.times.edges_within.Given as goal

abbrev pub invariant-loop-edge : goal.invariant-loop-edge
invariant-loop-edge l = l.within.items ≡ filter (λ edge. edge.distance == 0) (take l.edge-index l.edges)
