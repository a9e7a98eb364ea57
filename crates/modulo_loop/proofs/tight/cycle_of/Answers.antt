use Rattle.std.proofs.Common.{◌≡◌, ◌+◌, ◌∷◌, drop, drop-cons, slice_index, suc, ap, ◌∙◌, arith}
use Rattle.modulo_loop.specs.Trips.{RulesLead, latency_along, distance_along}
use Rattle.modulo_loop.proofs.Trips.{contains_at}
use Rattle.modulo_loop.proofs.tight.cycle_of.Goals as goal

pub loop-position-preserved : goal.loop-position-preserved
loop-position-preserved c =
    let rules = c.args.rules.now in
    let ps = c.args.positions.now in
    let i = c.loop-position.position-index in
    let p = slice_index ps i in
    let inv = c.loop-position.invariant in
    let next : suc i ≡ i + 1 = omega arith in
    let split : drop i ps ≡ p ∷ drop (i + 1) ps = drop-cons ps i 0 (omega arith) ∙ ap (λ n. p ∷ drop n ps) next in
    let leads : RulesLead rules c.loop-position.at (p ∷ drop (i + 1) ps) c.end_of-at.result = rw split at inv.leads in
    let joins = c.in_ok-add_rule.ensures in
    let long = ap (latency_along rules) split in
    let far = ap (distance_along rules) split in
    record {
      leads = leads.2;
      follows = joins.follows c.end_of-at.result inv.follows leads.1;
      known = joins.known rules inv.known (contains_at rules p leads.0);
      latency = omega (arith, joins.latency, inv.latency, long);
      distance = omega (arith, joins.distance, inv.distance, far);
    }
