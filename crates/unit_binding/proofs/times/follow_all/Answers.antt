use Rattle.std.proofs.Common.{◌≡◌, ℕ, ◌≤◌, ◌+◌, inl, inr, length, get_or, set, ap, ◌∙◌, arith}
use Rattle.std.specs.Prelude.{slice_index}
use Rattle.dep_graph.specs.declared.edge.Edge.{Edge}
use Rattle.dep_graph.specs.declared.edge.Why.TheVariants.{Data}
use Rattle.unit_binding.proofs.Followed.{followed_next, followed_solve, followed_least, all_followed}
use Rattle.unit_binding.proofs.times.follow_all.Goals as goal
use Rattle.unit_binding.proofs.times.follow_all.Goals.{then-times-to, else-times-to}

abbrev none : Edge
none = record { from = 0; to = 0; latency = 0; distance = 0; why = Data }

pub loop-edge-preserved : goal.loop-edge-preserved
loop-edge-preserved c =
    let short : (get_or c.args.edges.now c.loop-edge.edge-index none).latency ≤ 4294967295 = omega arith in
    let edge = get_or c.args.edges.now c.loop-edge.edge-index none in
    let times = c.loop-edge.times in
    let time : ℕ = slice_index times edge.from + edge.latency in
    let added : slice_index times edge.from + c.from.result ≡ time = ap (λ n. slice_index times edge.from + n) c.from.ensures in
    followed_next (length c.args.times.now) 4294967295 c.args.edges.now c.loop-edge.edge-index none times c.if-times-to.times c.loop-edge-test.true c.requires.lead_on c.requires.sorted short c.loop-edge.invariant
    (elim c.if-times-to.branch [
      | then-times-to w ↦ inl (omega arith, w.times-is ∙ ap (set times edge.to) added)
      | else-times-to w ↦ inr (omega arith, w.times-is)
    ])

pub returns-clause-solves : goal.returns-clause-solves
returns-clause-solves c = followed_solve (length c.args.times.now) 4294967295 c.args.edges.now c.loop-edge.times (all_followed (length c.args.times.now) 4294967295 c.args.edges.now c.loop-edge.edge-index c.loop-edge.times c.loop-edge-test.false c.loop-edge.invariant)

pub returns-clause-least : goal.returns-clause-least
returns-clause-least c = followed_least (length c.args.times.now) 4294967295 c.args.edges.now c.loop-edge.times (all_followed (length c.args.times.now) 4294967295 c.args.edges.now c.loop-edge.edge-index c.loop-edge.times c.loop-edge-test.false c.loop-edge.invariant)
