use Rattle.std.proofs.Common.{◌≡◌, ◌+◌, drop}
use Rattle.modulo_loop.specs.Lowest.{Follows, total_latency, total_distance}
use Rattle.modulo_loop.specs.Trips.{RulesLead, AreKnown, latency_along, distance_along}
use Rattle.modulo_loop.proofs.tight.cycle_of.Given as goal

abbrev pub invariant-loop-position : goal.invariant-loop-position
invariant-loop-position l = record {
  leads : RulesLead l.rules l.at (drop l.position-index l.positions) l.initial.at;
  follows : Follows l.initial.at l.cycle.items l.at;
  known : AreKnown l.rules l.cycle.items;
  latency : total_latency l.cycle.items + latency_along l.rules (drop l.position-index l.positions) ≡ latency_along l.rules l.positions;
  distance : total_distance l.cycle.items + distance_along l.rules (drop l.position-index l.positions) ≡ distance_along l.rules l.positions;
}
