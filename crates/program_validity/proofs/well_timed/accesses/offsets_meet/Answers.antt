use Rattle.std.proofs.Common.{◌≡◌, ◌∙◌, ◌-ℤ◌, sym, ap₂, arith, to_z, of_z}
use Rattle.std.specs.Int.{w128}
use Rattle.std.proofs.lemmas.Int.{ints}
use Rattle.std.proofs.lemmas.Bool.{cond-true, eq-eqb}
use Rattle.dep_graph.specs.Meetings.{distance_of}
use Rattle.dep_graph.specs.declared.access.Meeting.TheVariants as m
use Rattle.program_validity.proofs.well_timed.accesses.offsets_meet.Goals as goal

pub returns-then-from-to : goal.returns-then-from-to
returns-then-from-to c =
    let from = c.args.from in
    let to = c.args.to in
    let gap = c.gap_between in
    let short = c.requires.from.short in
    let step : to_z w128 (of_z w128 from.step) ≡ from.step = omega (arith, ints) in
    let small = gap.ensures.small in
    let ahead : to_z w128 (of_z w128 gap.result) ≡ gap.result = omega (arith, ints) in
    c.distance_of.ensures ∙ ap₂ distance_of step (ahead ∙ gap.ensures.value) ∙ sym (cond-true _ (distance_of from.step (from.constant -ℤ to.constant)) m.Always (eq-eqb from.counter.0 to.counter.0 c.if-from-to.true))
