use Rattle.std.proofs.Common.{◌≡◌, ◌+◌, length, refl, subst, sym, ap, ◌∙◌}
use Rattle.c_meaning.specs.Checks.Faults.{least}
use Rattle.c_meaning.specs.Checks.Recursion.{links, round_faults, recursion_faults}
use Rattle.c_names.proofs.DeclarationsLemmas.Least.{least_loop}
use Rattle.c_calls.specs.Linked.{AreWithin, Marks, HasSources, RowsAreBelow}
use Rattle.c_calls.proofs.Rounds.{links_within, rows_below}
use Rattle.c_calls.proofs.recursion.recursion_fault.Goals as goal

pub loop-caller-preserved : goal.loop-caller-preserved
loop-caller-preserved c =
    let all = c.args.callers.now in
    let x = c.caller-item.result in
    let found = c.round_fault.ensures ∙ ap (λ cs. least (round_faults all c.caller.inside.name cs)) c.deref-in-loop-caller-3.ensures.value
    ∙ ap (λ y. least (round_faults all y.name y.calls)) c.caller.view_is in
    least_loop (λ cs. recursion_faults all cs) all c.loop-caller.caller-index x (round_faults all x.name x.calls)
    _ _ _ _ c.loop-caller-test.true c.caller-item.is refl found c.lesser-worst.ensures c.loop-caller.invariant

pub reaching-requires-clause-rows : goal.reaching-requires-clause-rows
reaching-requires-clause-rows c =
    let all = c.args.callers.now in
    let size = length all + 1 in
    let rows = c.deref-in-loop-caller.result.now in
    let has : HasSources (links all all) size rows =
    subst (λ ls. HasSources ls size rows) (c.deref.ensures.value ∙ c.in_ok-linked.ensures) (subst (λ rs. HasSources c.deref.result.now size rs) (sym c.deref-in-loop-caller.ensures.value) c.in_ok-rows.ensures) in
    subst (λ k. RowsAreBelow k rows) (sym has.long) (rows_below (links all all) size rows (links_within all all) has)

pub round_fault-requires : goal.round_fault-requires
round_fault-requires c =
    let all = c.args.callers.now in
    let size = length all + 1 in
    let rows = c.deref-in-loop-caller.result.now in
    let has : HasSources (links all all) size rows =
    subst (λ ls. HasSources ls size rows) (c.deref.ensures.value ∙ c.in_ok-linked.ensures) (subst (λ rs. HasSources c.deref.result.now size rs) (sym c.deref-in-loop-caller.ensures.value) c.in_ok-rows.ensures) in
    let long : length rows ≡ size = has.long in
    let marks = c.in_ok-marks.ensures (links all all) (subst (λ k. AreWithin k (links all all)) (sym long) (links_within all all)) (subst (λ k. HasSources (links all all) k rows) (sym long) has) in
    subst (λ k. Marks (links all all) size (length all) k c.deref-in-loop-caller-2.result.now) c.number-target.ensures.value
    (subst (λ ms. Marks (links all all) size (length all) c.number-target.result ms) (sym c.deref-in-loop-caller-2.ensures.value)
    (subst (λ k. Marks (links all all) k (length all) c.number-target.result c.in_ok-marks.marks.items) long marks))
