use Rattle.std.proofs.Common.{◌≡◌, ℕ, ◌+◌, ◌-◌, ◌*◌, ◌<◌, ◌≤◌, ◌^◌, List, sym, ap, subst, ◌∙◌, arith}
use Rattle.std.specs.List.{All}
use Rattle.std.proofs.lemmas.Int.{ints}
use Rattle.std.proofs.lemmas.List.Elements.{All-weaker}
use Rattle.dep_graph.specs.declared.edge.Edge.{Edge}
use Rattle.diff_solve.specs.Times.{InRange, Solves, IsBelowAll, HasNoSolution}
use Rattle.diff_solve.specs.Answers.{HasModestWeights}
use Rattle.diff_solve.specs.Cycles.{IsPositiveCycle}
use Rattle.modulo_loop.specs.Rules.{constraints_at}
use Rattle.modulo_loop.specs.Lowest.{IsTooTight, total_latency, total_distance}
use Rattle.modulo_loop.specs.Trips.{IsCycleAlong, distance_along}
use Rattle.modulo_loop.proofs.ForwardRules.{rules_in_range, rules_modest, rules_short, tight_is_low, tight_leads_on}
use Rattle.modulo_loop.proofs.Gaps.{no_gaps}
use Rattle.modulo_loop.proofs.Trips.{trip_from, weight_from, tight_from}
use Rattle.modulo_loop.proofs.pipeline.try_interval.Goals as goal

pub solve-requires-clause-in_range : goal.solve-requires-clause-in_range
solve-requires-clause-in_range c =
    subst (InRange c.args.nodes) (sym (c.deref.ensures.value ∙ c.in_ok-constraints.ensures)) (rules_in_range c.args.nodes c.args.ii c.args.rules.now c.requires.forward.within (omega arith))

pub solve-requires-clause-modest : goal.solve-requires-clause-modest
solve-requires-clause-modest c =
    subst HasModestWeights (sym (c.deref.ensures.value ∙ c.in_ok-constraints.ensures)) (rules_modest c.args.nodes c.args.ii c.args.rules.now c.requires.forward.within (omega arith))

pub returns-in-Least-clause-early : goal.returns-in-Least-clause-early
returns-in-Least-clause-early c =
    let rules = c.args.rules.now in
    let nodes = c.args.nodes in
    let cs = constraints_at c.args.ii rules in
    let found : Solves nodes cs c.in-Least.times × IsBelowAll nodes cs c.in-Least.times = rw (c.deref.ensures.value, c.in_ok-constraints.ensures, c.in-Least.is) at c.in_ok-times.ensures in
    let within = c.requires.forward.within in
    let early = no_gaps 127 nodes c.in-Least.times c.requires.some cs (rules_in_range nodes c.args.ii rules within (omega arith)) (rules_short nodes c.args.ii rules within (omega arith)) found.0 found.1 in
    All-weaker (λ t. t + 127 ≤ 127 * nodes) (λ t. t ≤ 4261412864) (λ t h. (let few = c.requires.few in omega arith)) c.in-Least.times early

pub returns-in-Least-clause-attempt : goal.returns-in-Least-clause-attempt
returns-in-Least-clause-attempt c =
    let rules = c.args.rules.now in
    let nodes = c.args.nodes in
    let cs = constraints_at c.args.ii rules in
    let found : Solves nodes cs c.in-Least.times × IsBelowAll nodes cs c.in-Least.times = rw (c.deref.ensures.value, c.in_ok-constraints.ensures, c.in-Least.is) at c.in_ok-times.ensures in
    let early : All (λ t. t ≤ 4261412864) c.in-Least.times = returns-in-Least-clause-early c in
    record {
      solves = found.0;
      least = found.1;
      early = All-weaker (λ t. t ≤ 4261412864) (λ t. t < 2 ^ 32) (λ t h. (omega arith)) c.in-Least.times early;
    }

pub cycle_of-requires : goal.cycle_of-requires
cycle_of-requires c =
    let rules = c.args.rules.now in
    let ii = c.args.ii in
    let cs = constraints_at ii rules in
    let found : IsPositiveCycle cs c.in-Cycle.positions × HasNoSolution c.args.nodes cs = rw (c.deref.ensures.value, c.in_ok-constraints.ensures, c.in-Cycle.is) at c.in_ok-times.ensures in
    rw c.items.ensures (found.0.0, trip_from ii rules found.0.0 c.in-Cycle.positions found.0.0 found.0.1)

-- a cycle along rules whose constraints weigh more than nothing is too tight
tight : (nodes ii : ℕ) (rules : List Edge) (ps : List ℕ) (cycle : List Edge) → IsPositiveCycle (constraints_at ii rules) ps → IsCycleAlong rules ps cycle → IsTooTight rules ii cycle
tight nodes ii rules ps cycle (a, leads, positive) along =
    let weight = weight_from ii rules a ps a leads in
    let distance : ii * total_distance cycle ≡ ii * distance_along rules ps = ap (λ d. ii * d) along.distance in
    let latency = along.latency in
    tight_from rules ps cycle ii along (omega (arith, ints, weight, positive, distance, latency))

pub least_interval-next-requires-clause-later : goal.least_interval-next-requires-clause-later
least_interval-next-requires-clause-later c =
    let rules = c.args.rules.now in
    let nodes = c.args.nodes in
    let ii = c.args.ii in
    let cs = constraints_at ii rules in
    let cycle = c.in_ok-cycle-in-Cycle.cycle.items in
    let found : IsPositiveCycle cs c.in-Cycle.positions × HasNoSolution nodes cs = rw (c.deref.ensures.value, c.in_ok-constraints.ensures, c.in-Cycle.is) at c.in_ok-times.ensures in
    let along : IsCycleAlong rules c.in-Cycle.positions cycle = rw c.items.ensures at c.in_ok-cycle-in-Cycle.ensures in
    let here : IsTooTight rules ii cycle = tight nodes ii rules c.in-Cycle.positions cycle found.0 along in
    subst (λ es. 0 < total_distance es) (sym c.deref-in-Cycle.ensures.value) (tight_leads_on nodes rules c.requires.forward ii cycle here)

pub least_interval-next-requires-clause-long : goal.least_interval-next-requires-clause-long
least_interval-next-requires-clause-long c =
    let rules = c.args.rules.now in
    let nodes = c.args.nodes in
    let ii = c.args.ii in
    let cs = constraints_at ii rules in
    let cycle = c.in_ok-cycle-in-Cycle.cycle.items in
    let found : IsPositiveCycle cs c.in-Cycle.positions × HasNoSolution nodes cs = rw (c.deref.ensures.value, c.in_ok-constraints.ensures, c.in-Cycle.is) at c.in_ok-times.ensures in
    let along : IsCycleAlong rules c.in-Cycle.positions cycle = rw c.items.ensures at c.in_ok-cycle-in-Cycle.ensures in
    let here : IsTooTight rules ii cycle = tight nodes ii rules c.in-Cycle.positions cycle found.0 along in
    let long : 0 < total_latency cycle = (let z = here.positive in omega arith) in
    subst (λ es. 0 < total_latency es) (sym c.deref-in-Cycle.ensures.value) long

pub least_interval-next-requires-clause-low : goal.least_interval-next-requires-clause-low
least_interval-next-requires-clause-low c =
    let rules = c.args.rules.now in
    let nodes = c.args.nodes in
    let ii = c.args.ii in
    let cs = constraints_at ii rules in
    let cycle = c.in_ok-cycle-in-Cycle.cycle.items in
    let found : IsPositiveCycle cs c.in-Cycle.positions × HasNoSolution nodes cs = rw (c.deref.ensures.value, c.in_ok-constraints.ensures, c.in-Cycle.is) at c.in_ok-times.ensures in
    let along : IsCycleAlong rules c.in-Cycle.positions cycle = rw c.items.ensures at c.in_ok-cycle-in-Cycle.ensures in
    let here : IsTooTight rules ii cycle = tight nodes ii rules c.in-Cycle.positions cycle found.0 along in
    (λ k h. (let there : k * total_distance cycle < total_latency cycle = subst (λ (es : List Edge). k * total_distance es < total_latency es) c.deref-in-Cycle.ensures.value h in
    let low = tight_is_low nodes rules c.requires.forward k cycle (tight_from rules c.in-Cycle.positions cycle k along there) in
    let few = c.requires.few in
    omega arith))

pub returns-clause-attempt : goal.returns-clause-attempt
returns-clause-attempt c =
    let rules = c.args.rules.now in
    let nodes = c.args.nodes in
    let ii = c.args.ii in
    let cs = constraints_at ii rules in
    let cycle = c.in_ok-cycle-in-Cycle.cycle.items in
    let found : IsPositiveCycle cs c.in-Cycle.positions × HasNoSolution nodes cs = rw (c.deref.ensures.value, c.in_ok-constraints.ensures, c.in-Cycle.is) at c.in_ok-times.ensures in
    let along : IsCycleAlong rules c.in-Cycle.positions cycle = rw c.items.ensures at c.in_ok-cycle-in-Cycle.ensures in
    let here : IsTooTight rules ii cycle = tight nodes ii rules c.in-Cycle.positions cycle found.0 along in
    let next : ℕ = c.least_interval-next.result in
    let least : (next - 1) * total_distance cycle < total_latency cycle = subst (λ (es : List Edge). (next - 1) * total_distance es < total_latency es) c.deref-in-Cycle.ensures.value c.least_interval-next.ensures.least in
    let more : ii * total_distance c.deref-in-Cycle.result.now < total_latency c.deref-in-Cycle.result.now = subst (λ (es : List Edge). ii * total_distance es < total_latency es) (sym c.deref-in-Cycle.ensures.value) here.positive in
    (c.least_interval-next.ensures.enough ii more, tight_from rules c.in-Cycle.positions cycle (next - 1) along least)
