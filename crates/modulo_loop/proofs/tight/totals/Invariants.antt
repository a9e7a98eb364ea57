use Rattle.std.proofs.Common.{◌≡◌, ◌≤◌, ◌*◌, ◌^◌, take}
use Rattle.modulo_loop.specs.Lowest.{total_latency, total_distance}
use Rattle.modulo_loop.proofs.tight.totals.Given as goal

abbrev pub invariant-loop-edge : goal.invariant-loop-edge
invariant-loop-edge l = record {
  latency_low : l.latency ≤ l.edge-index * 2 ^ 32;
  distance_low : l.distance ≤ l.edge-index * 2 ^ 32;
  latency_so_far : l.latency ≡ total_latency (take l.edge-index l.cycle);
  distance_so_far : l.distance ≡ total_distance (take l.edge-index l.cycle);
}
