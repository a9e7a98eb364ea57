use Rattle.std.proofs.Common.{◌≡◌, ◌<◌, ◌≤◌, drop, length}
use Rattle.unit_binding.specs.Binding.{binding_view, dealt, first_turn}
use Rattle.unit_binding.proofs.bind.deal.Given as goal

abbrev pub invariant-loop-request : goal.invariant-loop-request
invariant-loop-request l = record {
  goes_on : dealt l.units (binding_view l.binding) l.turn (drop l.request-index l.requests) ≡ dealt l.units (binding_view l.initial.binding) first_turn l.requests;
  first : l.turn.first ≤ length l.binding.orders.items;
  small : l.turn.unit < 256;
}
