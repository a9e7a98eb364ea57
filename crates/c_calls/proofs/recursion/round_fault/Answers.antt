use Rattle.std.proofs.Common.{◌&&◌, length, refl, ap, ◌∙◌}
use Rattle.c_meaning.specs.Checks.Faults.{least, fault_if}
use Rattle.c_meaning.specs.Checks.Recursion.{number_of, links, reaches, stands_first, round_faults}
use Rattle.c_names.proofs.DeclarationsLemmas.Least.{least_loop}
use Rattle.c_calls.proofs.recursion.round_fault.Goals as goal

pub loop-call-preserved : goal.loop-call-preserved
loop-call-preserved c =
    let all = c.args.callers.now in
    let g = c.args.g.now in
    let x = c.call-item.result in
    let found = c.fault_if.ensures ∙ ap (λ b. least (fault_if b 18 c.call.inside.at)) c.leads_round-round.ensures
    ∙ ap (λ y. least (fault_if (stands_first all y.name g && reaches (links all all) (length all) (number_of all y.name) (number_of all g)) 18 y.at)) c.call.view_is in
    least_loop (λ cs. round_faults all g cs) c.args.calls.now c.loop-call.call-index x
    (fault_if (stands_first all x.name g && reaches (links all all) (length all) (number_of all x.name) (number_of all g)) 18 x.at)
    _ _ _ _ c.loop-call-test.true c.call-item.is refl found c.lesser-worst.ensures c.loop-call.invariant
