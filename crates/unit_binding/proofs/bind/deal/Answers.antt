use Rattle.std.proofs.Common.{◌≤◌, length, get_or, arith}
use Rattle.std.proofs.lemmas.List.{length-map}
use Rattle.ir_core.specs.declared.timing.UnitClass.TheVariants.{Multiplier}
use Rattle.unit_binding.specs.declared.bind.Request.{Request}
use Rattle.unit_binding.specs.declared.binding.Binding.{Binding}
use Rattle.unit_binding.specs.Binding.{order_view, binding_view, dealt, first_turn}
use Rattle.unit_binding.proofs.Orders.{opened_first, opened_unit, given_room, goes_on}
use Rattle.unit_binding.proofs.bind.deal.Goals as goal

abbrev none : Request
none = record { class = Multiplier 0; time = 0; op = 0; occupancy = 0 }

pub loop-request-preserved : goal.loop-request-preserved
loop-request-preserved c =
    let request = get_or c.args.requests.now c.loop-request.request-index none in
    let old : Binding = record { unit_of = c.loop-request.binding.unit_of; orders = c.loop-request.binding.orders } in
    let room : length c.loop-request.binding.orders.items ≤ length c.give.new.binding.orders.items = given_room old c.give.new.binding c.opened-turn.result request c.in_ok-give.ensures in
    let first : c.opened-turn.result.first ≤ length c.loop-request.binding.orders.items = (let le = opened_first c.loop-request.turn c.opened-turn.result request.class c.len.result c.opened-turn.ensures (omega (arith, c.len.ensures)) in omega (arith, c.len.ensures)) in
    record {
      goes_on = goes_on c.args.units c.args.requests.now c.loop-request.request-index none (binding_view old) (binding_view c.give.new.binding) (dealt c.args.units (binding_view c.args.binding.now) first_turn c.args.requests.now)
          c.loop-request.turn c.opened-turn.result c.len.result c.next_unit.result c.loop-request-test.true (omega (arith, c.len.ensures, length-map old.orders.items order_view)) c.opened-turn.ensures c.in_ok-give.ensures c.next_unit.ensures.value c.loop-request.invariant.goes_on;
      first = omega arith;
      small = c.next_unit.ensures.small;
    }

pub give-requires-clause-first : goal.give-requires-clause-first
give-requires-clause-first c =
    let request = get_or c.args.requests.now c.loop-request.request-index none in
    let le = opened_first c.loop-request.turn c.opened-turn.result request.class c.len.result c.opened-turn.ensures (omega (arith, c.len.ensures)) in
    omega (arith, c.len.ensures)

pub give-requires-clause-small : goal.give-requires-clause-small
give-requires-clause-small c =
    let request = get_or c.args.requests.now c.loop-request.request-index none in
    opened_unit c.loop-request.turn c.opened-turn.result request.class c.len.result c.opened-turn.ensures c.loop-request.invariant.small
