use Rattle.std.proofs.Common.{◌∙◌, sym, ap}
use Rattle.c_types.specs.Chains.{found, steps}
use Rattle.c_types.proofs.Chains.{steps_more}
use Rattle.c_types.proofs.steps.joined.Goals as goal

pub loop-step-preserved : goal.loop-step-preserved
loop-step-preserved c =
    let left = c.pop.new.self.items in
    let part = found c.loop-step.whole.fault c.loop-step.whole.accesses in
    ap (steps left) c.in_ok-whole.ensures ∙ sym (steps_more left c.in-Some.step part) ∙ ap (λ ss. steps ss part) (sym c.in-Some.ensures.items) ∙ c.loop-step.invariant
