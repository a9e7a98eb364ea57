use Rattle.std.proofs.Common.{◌≡◌, ◌+◌, length, rules, subst, sym}
use Rattle.std.specs.List.{All}
use Rattle.unit_binding.specs.Binding.{IsBoundBy}
use Rattle.unit_binding.specs.Times.{LeadsOn}
use Rattle.unit_binding.proofs.Followed.{least_bound}
use Rattle.unit_binding.proofs.Leading.{orders_forward, within_lead}
use Rattle.unit_binding.proofs.Serving.{serving, served_by_time}
use Rattle.unit_binding.proofs.bind.bind.Goals as goal

pub least_times-requires-clause-lead_on : goal.least_times-requires-clause-lead_on
least_times-requires-clause-lead_on c =
    let count = length c.args.body.now.ops.items in
    let counted : c.len-ops.result ≡ count = search rules in
    let lead = within_lead (count + 1) c.args.edges.now c.in_ok-within.within.items c.requires.edges c.in_ok-within.ensures.moved in
    subst (λ n. All (LeadsOn (n + 1)) c.deref.result.now) (sym counted) (subst (All (LeadsOn (count + 1))) (sym c.deref.ensures.value) lead)

pub returns-clause-bound : goal.returns-clause-bound
returns-clause-bound c = record {
  times = c.in_ok-times.times.items;
  least = least_bound c.len-ops.result (length c.args.body.now.ops.items) c.args.edges.now c.in_ok-within.within.items c.deref.result.now c.in_ok-times.times.items (search rules) c.deref.ensures.value c.in_ok-within.ensures.moved c.in_ok-times.ensures.solves c.in_ok-times.ensures.least;
  requests = c.sort.new.self.items;
  requests_moved = search rules;
  requests_sorted = search rules;
  is_dealt = search rules;
}

pub returns-clause-forward : goal.returns-clause-forward
returns-clause-forward c =
    let binding = c.deal.new.binding in
    let bound : IsBoundBy serving c.args.body.now c.args.memories.now c.args.edges.now c.args.units binding = returns-clause-bound c in
    orders_forward serving served_by_time c.args.body.now c.args.memories.now c.args.edges.now c.args.units binding c.requires.body c.requires.edges bound
