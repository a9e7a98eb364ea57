use Rattle.std.proofs.Common.{◌∙◌, sym, ap}
use Rattle.std.proofs.lemmas.Result.{on_ok_weaker}
use Rattle.datapath.specs.Plans.{Plan}
use Rattle.circuit_context.proofs.BankLemmas.Adding.{results_added}
use Rattle.circuit_context.proofs.bank.slots.push_results.Goals as goal

pub returns : goal.returns
returns c = λ p e.
    let variables = ap (λ (q : Plan). q.program.shapes.widths) e ∙ sym c.deref.ensures.value in
    let values = ap (λ (q : Plan). q.widths) e ∙ sym c.deref-2.ensures.value in
    let bits = sym (ap (λ (q : Plan). q.result) e) in
    on_ok_weaker c.push_if.result
    (λ last.
    results_added p c.args.slots.now.items c.push_variables.new.slots.items c.push_values.new.slots.items c.push_if.new.slots.items c.deref.result.now c.deref-2.result.now c.args.cfg.now.frame.ret variables values bits
    (c.in_ok-push_variables.ensures p variables) (c.in_ok-push_values.ensures p values) last) (c.push_if.ensures p (λ there. bits))
