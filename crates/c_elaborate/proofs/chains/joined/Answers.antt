use Rattle.std.proofs.Common.{◌∙◌, sym, ap}
use Rattle.pieces.specs.Resolved.CoreView.{core_of}
use Rattle.c_elaborate.specs.Chains.{steps}
use Rattle.c_elaborate.proofs.Chaining.{steps_more}
use Rattle.c_elaborate.proofs.chains.joined.Goals as goal

pub loop-step-preserved : goal.loop-step-preserved
loop-step-preserved c =
    let left = c.pop.new.self.items in
    let part = core_of c.loop-step.whole in
    ap (steps left) c.in_ok-whole.ensures ∙ sym (steps_more left c.in-Some.step part) ∙ ap (λ ss. steps ss part) (sym c.in-Some.ensures.items) ∙ c.loop-step.invariant
